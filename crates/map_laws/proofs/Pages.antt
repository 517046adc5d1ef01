-- Pages of a map in name order, and the last map kept over calls that hand out none.
use mathlib.Core.Path.{◌≡◌, refl, ◌∙◌}
use mathlib.Core.Bool.{Bool, true, false, cond}
use mathlib.Core.List.{List, [], ◌∷◌}
use Rattle.rules.specs.Classes.{Obj, by_name}
use Rattle.rules.specs.Answers.{accepted}
use Rattle.rules.specs.History.{Call, insert, delete, step, confirm, outcome_of, Stored, Page, History, serve, after, bytes_under, with_bytes, Every}
use Rattle.rules.proofs.Lists.{All}
use Rattle.rules.proofs.Insertion.{name_all}
use Rattle.map_laws.specs.Kept.{gives_map, NoMap}

-- what holds of each page holds of each in name order
pub pages_by_name : (P : Page → Type 0) (l : List Stored) (os : List Obj) → Every P (with_bytes l os) → Every P (with_bytes l (by_name os))
unfolding with_bytes
pages_by_name P l os h = pages (by_name os) (name_all Here os (objects os h))
  where
    Here : Obj → Type 0
    Here o = P (record { object = o; bytes = bytes_under o.name l })

    objects : (xs : List Obj) → Every P (with_bytes l xs) → All Here xs
    objects [] k = tt
    objects (x ∷ xs) k = (k.0, objects xs k.1)

    pages : (xs : List Obj) → All Here xs → Every P (with_bytes l xs)
    pages [] k = tt
    pages (x ∷ xs) k = (k.0, pages xs k.1)

either : {A : Type 0} (b : Bool) (x : A) → cond b x x ≡ x
either true x = refl
either false x = refl

-- a call that hands out no map leaves the last one kept
call_kept : (h : History) (c : Call) → gives_map h c ≡ false → (serve h c).kept ≡ h.kept
call_kept h (insert lent n page) e = either (accepted (outcome_of h.store h.area (insert lent n page)).answer) h.kept
call_kept h (delete n) e = either (accepted (outcome_of h.store h.area (delete n)).answer) h.kept
call_kept h (step lent) e = either (accepted (outcome_of h.store h.area (step lent)).answer) h.kept
call_kept h (confirm room) e = rw e

pub kept_stays : (h : History) (cs : List Call) → NoMap h cs → (after h cs).kept ≡ h.kept
unfolding after
kept_stays h [] none = refl
kept_stays h (c ∷ cs) none = kept_stays (serve h c) cs none.1 ∙ call_kept h c none.0
