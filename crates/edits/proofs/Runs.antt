-- One object stored in the columns, and what it leaves. A list of objects from columns is determined index by index; so an edit is a
-- statement on single indices, and its law follows by `run_same`, which is passed on from the rules.
use mathlib.Core.Path.{◌≡◌}
use mathlib.Core.List.{List}
use Prim.Native.Nat.{ℕ, ◌<◌}
use native.Mathlib.Omega.{arith}
use lib.ListN.{length, set}
use lib.Seq.{get_or-set_same, get_or-set_other}
pub use Rattle.rules.specs.Columns.{object_at}
unfoldable pub use Rattle.rules.proofs.Runs.{run}
pub use Rattle.rules.proofs.Runs.{listed_run, run_length, run_same, run_add}
use Rattle.edits.specs.Edits.{object}

-- columns of one size
pub record Sized (most : ℕ) (ns ps ls : List ℕ) : Type 0 where
  pub of_names : length ns ≡ most
  pub of_places : length ps ≡ most
  pub of_lens : length ls ≡ most

-- one object stored at index j
module _ (ns ps ls : List ℕ) (j x y z : ℕ) where
  pub put_same : {most : ℕ} → Sized most ns ps ls → j < most → object_at (set ns j x) (set ps j y) (set ls j z) j ≡ object x y z
  put_same s h = rw (
    get_or-set_same ns j x 0 (omega (arith, s.of_names)),
    get_or-set_same ps j y 0 (omega (arith, s.of_places)),
    get_or-set_same ls j z 0 (omega (arith, s.of_lens)),
  )

  pub put_other : (k : ℕ) → (k ≡ j → ⊥) → object_at (set ns j x) (set ps j y) (set ls j z) k ≡ object_at ns ps ls k
  put_other k h = rw (get_or-set_other ns j k x 0 h, get_or-set_other ps j k y 0 h, get_or-set_other ls j k z 0 h)
