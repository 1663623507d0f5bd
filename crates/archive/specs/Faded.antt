-- Paper 14 and the archive: what it files of a medium some of whose bits have turned from 0 to 1, again and again.
use Rattle.std.specs.Prelude.{◌≡◌, ◌⊎◌, List, [], ◌++◌, ℕ, ◌≤◌}
use Rattle.std.specs.Prelude.{Option, Some}
use Rattle.lists.specs.Cells.{Entry}
use Rattle.page.specs.Pages.{changes_of}
use Rattle.index.specs.Index.{assign_all}
use Rattle.news.specs.News.{news_of}
use Rattle.valve_log.specs.History.{History}
use Rattle.valve_log.specs.Reached.{World, Reached}
use Rattle.valve_log.specs.Made.{groups_made}
use Rattle.fading.specs.Fading.{Faded}
use Rattle.archive.specs.Archive.{Reading, read, Archive, file, Filings}

-- The archive a after the list r, whose medium has faded since, more or less at each reading: it reads what `news` accepts, and files it.
pub data FadedFilings {w : World} {h : History} (r : Reached w h) : Archive → Type 0 where
  begun : {a : Archive} {since later : List (List Entry)} {p : Option Reading} → Filings w h r a since p later → FadedFilings r a
  filing : {a : Archive} {x : Reading} (m : List ℕ) → FadedFilings r a → Faded w.medium m → read a.mark m ≡ Some x → FadedFilings r (file a x)

-- What is filed is always the first part of all that was made: nothing that was not made, nothing twice, nothing out of order; only the last may be missing.
-- The settings filed last are what all filed changes lead to.
pub record FirstPart (made : List (List Entry)) (a : Archive) : Type 0 where
  pub rest : List Entry
  pub is : changes_of made ≡ a.filed ++ rest
  pub settings : a.settings ≡ assign_all [] a.filed

unfoldable pub FadedFirstPart : Type 0
FadedFirstPart = (w : World) (h : History) (r : Reached w h) (a : Archive) → FadedFilings r a → FirstPart (groups_made r) a

-- And the call accepts a faded medium, or refuses it as recovery does, by 4, 5 or 6, or by 28; never by 29.
unfoldable pub FadedRefusedWith : Type 0
FadedRefusedWith =
    (w : World) (h : History) (r : Reached w h) (a : Archive) → FadedFilings r a → (m : List ℕ) → Faded w.medium m
    → ((news_of a.mark m).number ≡ 0) ⊎ (((4 ≤ (news_of a.mark m).number) × ((news_of a.mark m).number ≤ 6)) ⊎ ((news_of a.mark m).number ≡ 28))
