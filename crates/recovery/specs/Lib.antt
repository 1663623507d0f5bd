pub mod Recovery
