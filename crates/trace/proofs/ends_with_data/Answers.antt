use Rattle.std.proofs.Common.{◌≡◌, ◌-◌, leb, length}
use Rattle.trace.specs.Trace.{code_at, number_at, data_size}
use Rattle.trace.proofs.Laws.{fit_here, sum_end, sum_here, sum_next, sum_small, sum_start, sum_stop}
use borrow.Author.Rules.{rules}
use Rattle.trace.proofs.ends_with_data.Goals as goal

pub loop-i-init : goal.loop-i-init
loop-i-init c = search (sum_start, rules)

pub returns-then-not-fits_in : goal.returns-then-not-fits_in
returns-then-not-fits_in c = let u : c.fits_in.result ≡ leb (data_size (code_at c.args.t.now c.loop-i.i) (number_at c.args.t.now c.loop-i.i)) (length c.args.t.now - c.loop-i.at) = fit_here _ _ _ _ c.kind_at.ensures c.number.ensures _ _ c.fits_in.ensures in search (sum_stop, rules)

pub data_size-at-requires : goal.data_size-at-requires
data_size-at-requires c = let u : c.fits_in.result ≡ leb (data_size (code_at c.args.t.now c.loop-i.i) (number_at c.args.t.now c.loop-i.i)) (length c.args.t.now - c.loop-i.at) = fit_here _ _ _ _ c.kind_at.ensures c.number.ensures _ _ c.fits_in.ensures in search (sum_here, rules)

pub overflow_add-at-in-loop-i : goal.overflow_add-at-in-loop-i
overflow_add-at-in-loop-i c = let u : c.fits_in.result ≡ leb (data_size (code_at c.args.t.now c.loop-i.i) (number_at c.args.t.now c.loop-i.i)) (length c.args.t.now - c.loop-i.at) = fit_here _ _ _ _ c.kind_at.ensures c.number.ensures _ _ c.fits_in.ensures in search (sum_small, rules)

pub loop-i-preserved : goal.loop-i-preserved
loop-i-preserved c = let u : c.fits_in.result ≡ leb (data_size (code_at c.args.t.now c.loop-i.i) (number_at c.args.t.now c.loop-i.i)) (length c.args.t.now - c.loop-i.at) = fit_here _ _ _ _ c.kind_at.ensures c.number.ensures _ _ c.fits_in.ensures in search (sum_next, rules)

pub returns : goal.returns
returns c = search (sum_end, rules)
