-- What columns denote: the objects, a flush's start, and its plan, from one column for each property of an object.
use Rattle.std.specs.Prelude.{ℕ, zero, suc, ◌+◌, ◌-◌, cond, List, [], ◌∷◌, ◌++◌, reverse, get_or, eqb}
use Rattle.rules.specs.Classes.{Obj}
use Rattle.rules.specs.Regions.{Regions}
use Rattle.rules.specs.Flush.{Start, Act, Move, moves, one_run, by_volume, by_span, runs, or_wait}

-- the sum of a column
unfoldable pub sum_of : List ℕ → ℕ
sum_of [] = 0
sum_of (x ∷ xs) = x + sum_of xs

-- the object of index i
abbrev pub object_at : List ℕ → List ℕ → List ℕ → ℕ → Obj
object_at names places lens i = record { name = get_or names i 0; at = get_or places i 0; len = get_or lens i 0 }

-- the n objects from index i on
unfoldable pub listed : List ℕ → List ℕ → List ℕ → ℕ → ℕ → List Obj
listed names places lens i zero = []
listed names places lens i (suc n) = object_at names places lens i ∷ listed names places lens (suc i) n

-- a flush's start: the objects below index `old` are old, those from there up to n new
abbrev pub start_listed : Regions → ℕ → List ℕ → List ℕ → List ℕ → ℕ → ℕ → Start
start_listed t b names places lens old n = record {
  regions = t;
  boundary = b;
  old = listed names places lens 0 old;
  new = listed names places lens old (n - old);
}

-- an object's kind in a flush: it stays,
abbrev pub stays : ℕ
stays = 0

-- it lies in a flushed payload,
abbrev pub of_payload : ℕ
of_payload = 1

-- or it goes through overflow
abbrev pub of_overflow : ℕ
of_overflow = 2

-- those of the n objects from index i on that are of kind k
unfoldable pub picked : List ℕ → ℕ → List ℕ → List ℕ → List ℕ → ℕ → ℕ → List Obj
picked kinds k names places lens i zero = []
picked kinds k names places lens i (suc n) =
    let rest = picked kinds k names places lens (suc i) n in
    cond (eqb (get_or kinds i 0) k) (object_at names places lens i ∷ rest) rest

-- where each object lies: at the flush's start, between its phases, and at its end
pub record Places : Type 0 where
  pub starts : List ℕ
  pub middles : List ℕ
  pub finals : List ℕ

-- the moves of the four phases
pub record Phases : Type 0 where
  pub lift : List Move
  pub pack : List Move
  pub spread : List Move
  pub settle : List Move

-- those of a flush, by the objects' kinds
abbrev pub phases_of : List ℕ → List ℕ → Places → List ℕ → ℕ → ℕ → Phases
phases_of kinds names p lens old n = record {
  lift = moves (picked kinds of_overflow names p.starts lens 0 old) (picked kinds of_overflow names p.middles lens 0 old);
  pack = moves (reverse (picked kinds of_payload names p.starts lens 0 n)) (reverse (picked kinds of_payload names p.middles lens 0 n));
  spread = moves (picked kinds of_payload names p.middles lens 0 n) (picked kinds of_payload names p.finals lens 0 n);
  settle = moves (picked kinds of_overflow names p.middles lens 0 n) (picked kinds of_overflow names p.finals lens 0 n);
}

-- the phases cut into runs of at most `most`: the plan
unfoldable pub plan_by : ℕ → Phases → List Act
plan_by most f =
    or_wait (runs f.lift (λ m. one_run f.lift)
    ++ (runs f.pack (λ m. by_volume most most f.pack)
    ++ (runs f.spread (λ m. by_span most (m.to + most) f.spread)
    ++ runs f.settle (λ m. one_run f.settle))))
