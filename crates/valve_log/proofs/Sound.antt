-- What holds of the medium at every moment, with or without the state, and that recovery then gives the history.
use mathlib.Core.Path.{◌≡◌, ap, ◌∙◌}
use mathlib.Core.Bool.{true}
use Rattle.std.proofs.Common.{Some}
use mathlib.Core.List.{List, [], ◌∷◌, ◌++◌}
use Prim.Native.Nat.{ℕ, suc, ◌+◌, ◌-◌, ◌/◌, ◌≤◌, ◌<◌}
use native.Mathlib.Omega.{arith}
use lib.ListN.{length, set, length-append}
use borrow.Author.Tests.{ltb-true, lt-ltb}
use Rattle.lists.specs.Needs.{gives, under}
use Rattle.lists.specs.Lists.{all, every, is_some, value_or}
use Rattle.lists.specs.Cells.{Entry, Place, Setting}
use Rattle.lists.proofs.Laws.{all_weaken, keep_all_of, tests, checked_pass}
use Rattle.page.specs.Pages.{Page, View, whole, is_clean}
use Rattle.page.specs.Rules.{lawful}
use Rattle.flash.specs.Medium.{seen}
use Rattle.nodes.specs.Nodes.{sound, words}
use Rattle.state.specs.State.{Held, held, none_erased, idle}
use Rattle.blocks.specs.Blocks.{size_ok}
use Rattle.recovery.specs.Recovery.{Placed, placed, serial_of, wholes, all_lawful, distinct, sort, last_of, no_page, base_of, reaches, from, consecutive, Group}
use Rattle.recovery.specs.Recovery.{between, walk, groups_of, log_of, pages_of, enter_pages, recovery_with, base, chain, groups, replayed, recovered_state, recover_needs, recover}
use Rattle.recovery.proofs.Pages.{base_append}
use Rattle.valve_log.proofs.Order.{below, Grow, grow_all, grow_from, grow_sort, grow_distinct, Thin, thin_all, thin_distinct, thin_from}
use Rattle.valve_log.proofs.Order.{upto, sort_split, from_sort, last_append, consecutive_append, consecutive_one, consecutive_last}
use Rattle.valve_log.proofs.Index.{TidyIndex, words_keep, sound_keep}
use Rattle.valve_log.proofs.Views.{wholes_grow, set_keeps, Lost, thin_of}

-- b: the base's first serial. ch: the whole pages from b on, in serial order. gs: their complete groups. idx: the index that replay gives.
pub record Sound (v : List View) (log : List (List Entry)) (settings : List Setting) (b : ℕ) (ch : List Placed) (gs : List Group) (idx : List Place) : Type 0 where
  pub lawfuls : all_lawful (wholes 0 v) ≡ true
  pub distincts : distinct (wholes 0 v) ≡ true
  pub bound : all (below (b + length ch)) (wholes 0 v) ≡ true
  pub some_page : 1 ≤ length ch
  pub chained : sort (from b (wholes 0 v)) ≡ ch
  pub rises : consecutive b ch ≡ true
  pub based : base_of ch ≡ Some b
  pub walks : groups_of (walk (between []) ch) ≡ Some gs
  pub replays : enter_pages (Some []) (pages_of gs) ≡ Some idx
  pub logs : log_of gs ≡ log
  pub sounds : sound v idx ≡ true
  pub shows : words v idx ≡ settings
  pub tidy : TidyIndex idx

-- ---- recovery

module _ {v : List View} {log : List (List Entry)} {settings : List Setting} {b : ℕ} {ch : List Placed} {gs : List Group} {idx : List Place} (S : Sound v log settings b ch gs idx) where
  pub split : sort (wholes 0 v) ≡ sort (upto b (wholes 0 v)) ++ ch
  split = sort_split b (wholes 0 v) ∙ ap (λ (l : List Placed). sort (upto b (wholes 0 v)) ++ l) S.chained

  found_base : base_of (sort (wholes 0 v)) ≡ Some b
  found_base = rw split (base_append (sort (upto b (wholes 0 v))) ch b S.based)

  pub base_is : base v ≡ b
  unfolding base value_or
  base_is = rw found_base

  chain_is : chain v ≡ ch
  unfolding chain
  chain_is = rw base_is (from_sort b (wholes 0 v) ∙ S.chained)

  groups_are : groups v ≡ Some gs
  unfolding groups
  groups_are = rw chain_is S.walks

  replayed_is : replayed v ≡ Some idx
  unfolding replayed value_or
  replayed_is = rw groups_are S.replays

  pub greatest : suc (serial_of (last_of no_page (sort (wholes 0 v)))) ≡ b + length ch
  greatest =
      ap (λ (l : List Placed). suc (serial_of (last_of no_page l))) split
      ∙ ap (λ (x : Placed). suc (serial_of x)) (last_append no_page (sort (upto b (wholes 0 v))) ch)
      ∙ consecutive_last b (last_of no_page (sort (upto b (wholes 0 v)))) ch S.some_page S.rises

  -- the state that recovery gives
  unfoldable pub outcome : Held
  outcome = held (record { blocks = length v / 16; block = (last_of no_page (sort (wholes 0 v))).at / 16; next = 16; serial = b + length ch; base = b }) idx idle (none_erased (length v / 16))

  outcome_is : recovered_state v ≡ outcome
  unfolding recovered_state outcome value_or
  outcome_is = rw (base_is, replayed_is, greatest)

  pub accepts : (n : ℕ) → size_ok n ≡ true → recover n v ≡ gives (recovery_with log outcome)
  unfolding recover
  accepts n size =
      checked_pass (recover_needs n v) (gives (recovery_with (log_of (value_or [] (groups v))) (recovered_state v))) met
      ∙ rw (groups_are, outcome_is) (unfold value_or in ap (λ (l : List (List Entry)). gives (recovery_with l outcome)) S.logs)
    where
      met : every (tests (recover_needs n v)) ≡ true
      met = unfold every tests is_some value_or in rw (size, S.lawfuls, S.distincts, found_base, base_is, chain_is, S.rises, groups_are, replayed_is, S.sounds)

-- ---- one page more

pub record Grown (v v' : List View) (b : ℕ) (ch : List Placed) (idx : List Place) (settings : List Setting) (x : Placed) : Type 0 where
  pub lawfuls : all_lawful (wholes 0 v') ≡ true
  pub distincts : distinct (wholes 0 v') ≡ true
  pub bound : all (below (b + length (ch ++ (x ∷ [])))) (wholes 0 v') ≡ true
  pub chained : sort (from b (wholes 0 v')) ≡ ch ++ (x ∷ [])
  pub rises : consecutive b (ch ++ (x ∷ [])) ≡ true
  pub sounds : sound v' idx ≡ true
  pub shows : words v' idx ≡ settings

pub grown : {v : List View} {log : List (List Entry)} {settings : List Setting} {b : ℕ} {ch : List Placed} {gs : List Group} {idx : List Place} → Sound v log settings b ch gs idx → (p : ℕ) (pg : Page)
    → is_clean (seen v p) ≡ true → lawful pg ≡ true → pg.serial ≡ b + length ch → Grown v (set v p (whole pg)) b ch idx settings (placed p pg)
grown {v} {log} {settings} {b} {ch} {gs} {idx} S p pg c l s =
    record {
      lawfuls = unfold all_lawful in grow_all (λ (y : Placed). lawful y.page) g l S.lawfuls;
      distincts = grow_distinct g under S.distincts;
      bound =
          grow_all (below (b + length (ch ++ (x ∷ [])))) g (unfold below in lt-ltb pg.serial (b + length (ch ++ (x ∷ []))) (omega (arith, s, length-append ch (x ∷ []))))
          (all_weaken (below (b + length ch)) (below (b + length (ch ++ (x ∷ [])))) wider (wholes 0 v) S.bound);
      chained = grow_sort (grow_from b g (omega (arith, s))) (unfold from in keep_all_of (reaches b) (below pg.serial) (wholes 0 v) under) ∙ ap (λ (m : List Placed). m ++ (x ∷ [])) S.chained;
      rises = consecutive_append b ch (x ∷ []) S.rises (consecutive_one (b + length ch) x s);
      sounds = sound_keep v (set v p (whole pg)) idx (set_keeps v p (whole pg) c) S.sounds;
      shows = words_keep v (set v p (whole pg)) idx (set_keeps v p (whole pg) c) S.sounds ∙ S.shows;
    }
  where
    x : Placed
    x = placed p pg

    zero_left : (n : ℕ) → 0 + n ≡ n
    zero_left n = omega arith

    g : Grow x (wholes 0 v) (wholes 0 (set v p (whole pg)))
    g = rw (zero_left p) at (wholes_grow v 0 p pg c)

    under : all (below pg.serial) (wholes 0 v) ≡ true
    under = rw s S.bound

    wider : (y : Placed) → below (b + length ch) y ≡ true → below (b + length (ch ++ (x ∷ []))) y ≡ true
    wider y e =
        unfold below in (let h : serial_of y < b + length ch = ltb-true (serial_of y) (b + length ch) e in lt-ltb (serial_of y) (b + length (ch ++ (x ∷ []))) (omega (arith, length-append ch (x ∷ []))))

-- ---- changes that keep the base, its chain and the index: pages with lower serials are lost, and what the index points at stays

pub lost_sound : {v : List View} {log : List (List Entry)} {settings : List Setting} {b : ℕ} {ch : List Placed} {gs : List Group} {idx : List Place}
    → Sound v log settings b ch gs idx → (w : List View)
    → length w ≡ length v → ((q : ℕ) → Lost b (seen v q) (seen w q)) → sound w idx ≡ true → words w idx ≡ words v idx → Sound w log settings b ch gs idx
lost_sound {v} {b = b} {ch = ch} S w l f s k =
    let t : Thin b (wholes 0 v) (wholes 0 w) = thin_of b 0 v w l f in
    record {
      lawfuls = unfold all_lawful in thin_all (λ (y : Placed). lawful y.page) t S.lawfuls;
      distincts = thin_distinct t S.distincts;
      bound = thin_all (below (b + length ch)) t S.bound;
      some_page = S.some_page;
      chained = ap sort (thin_from t) ∙ S.chained;
      rises = S.rises;
      based = S.based;
      walks = S.walks;
      replays = S.replays;
      logs = S.logs;
      sounds = s;
      shows = k ∙ S.shows;
      tidy = S.tidy;
    }
