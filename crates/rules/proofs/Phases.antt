-- The four phases of a flush one after another, over numbers and lists.
-- Buffered objects go to overflow, above all that is held or seen. Then payload objects are packed below overflow, and spread to their final places.
-- Then overflow objects go to theirs: what is seen by then lies at a final place of a payload object, below the flushed regions, or in overflow.
use mathlib.Core.Path.{◌≡◌, refl, sym, ap, ◌∙◌}
use mathlib.Core.Logic.{◌⊎◌, inl, inr}
use mathlib.Core.List.{List, [], ◌∷◌, ◌++◌, reverse, reverse_aux, reverse-reverse}
use Prim.Native.Nat.{ℕ, ◌+◌, ◌-◌, ◌≤◌}
use native.Mathlib.Omega.{arith}
use Rattle.rules.specs.Classes.{Obj, end_of, volume}
use Rattle.rules.specs.Flush.{Act, moves, stacked, packed}
use Rattle.rules.proofs.Lists.{All, In, in_all, all_in_lem, all_map, all_left}
use Rattle.rules.proofs.Names.{kinds_stacked, kinds_turned, all_reverse, all_kinds}
use Rattle.rules.proofs.Safe.{twins_of, Misses, Apart, Safe, safe_append, Divided}
use Rattle.rules.proofs.Packing.{Sized, Falling, falling_volume, packing_safe}
use Rattle.rules.proofs.Spreading.{spread_within, packed_rising, spreading_safe}
use Rattle.rules.proofs.Lifting.{chain_above, run_safe}
use Rattle.rules.proofs.Ready.{lift, pack, spread, settle, phases, Ready}
use Rattle.rules.proofs.Rows.{in_reverse, reverse_in, next_up, turned, stacked_append, stacked_chain, stacked_within, stacked_pairs, chain_falling}

module _ (limit floor old new goal : ℕ) where
  -- what is known of the pages seen between phases 1 and 2
  abbrev pub Early : List Obj → List Obj → List Obj → Type 0
  Early payload overs seen = All (Misses old goal) seen × (payload ≡ [] → (f : Obj) → In f overs → All (Misses floor goal) seen)

  module _ {buffered payload fresh low finals overs start : List Obj} (r : Ready limit floor old new goal buffered payload fresh low finals overs start) where
    -- overflow, once phase 1 is done
    over_is : stacked goal (buffered ++ fresh) ≡ stacked goal buffered ++ fresh
    over_is = stacked_append goal buffered fresh ∙ ap (λ l. stacked goal buffered ++ l) r.written

    fresh_above : (o : Obj) → In o fresh → goal + volume buffered ≤ o.at
    fresh_above o m = chain_above (goal + volume buffered) fresh (rw r.written at (stacked_chain (goal + volume buffered) fresh)) o m

    -- what phases 2 and 3 leave alone lies in overflow or below the flushed regions
    aside : (o : Obj) → In o (reverse_aux (stacked goal buffered) (reverse_aux fresh low)) → Misses floor goal o
    aside o m x a b c d = elim (reverse_in o (stacked goal buffered) (reverse_aux fresh low) m) [
      | inl k ↦ omega (arith, chain_above goal (stacked goal buffered) (stacked_chain goal buffered) o k)
      | inr k ↦ elim (reverse_in o fresh low k) [
        | inl l ↦ omega (arith, fresh_above o l)
        | inr l ↦ omega (arith, in_all (λ (y : Obj). end_of y ≤ floor) low r.lows o l)
      ]
    ]

    module _ (Post : List Obj → List Obj → Type 0) where
      -- phase 1
      lift_safe : (seen : List Obj) → All (λ (o : Obj). end_of o ≤ old) seen
          → (payload ≡ [] → buffered ≡ [] → (f : Obj) → In f overs → All (Misses floor goal) seen)
          → ((now' seen' : List Obj) → Divided [] (reverse_aux (stacked goal buffered) (reverse_aux payload (reverse_aux fresh low))) now'
          → Early payload overs seen' → Post now' seen')
          → Safe (lift goal buffered) Post start seen
      lift_safe seen below bare next = run_safe Post (Early payload overs) buffered (stacked goal buffered) (record {
        held = r.held;
        twins = twins_of buffered (stacked goal buffered) (sym (kinds_stacked goal buffered));
        chain = r.buffers;
        some = some_left;
        other = other;
        pairs = stacked_pairs goal buffered;
        free = free;
        clear = λ f m. all_map (λ o k x a b c d. omega (arith, (within f m).0)) seen below;
      }) (λ z. (all_map (λ o k x a b c d. omega arith) seen below, λ e f m. bare e z f m))
          (λ n h. (
            all_in_lem (Misses old goal) n (λ o m. far o (h.sorted o m)),
            λ e f i. all_in_lem (Misses floor goal) n (λ o m. none e o (h.sorted o m)),
          )) next
        where
          some_left : All (λ (o : Obj). 1 ≤ o.len) buffered
          some_left = all_left (λ (o : Obj). 1 ≤ o.len) buffered fresh r.some

          within : (f : Obj) → In f (stacked goal buffered) → (goal ≤ f.at) × (end_of f ≤ goal + volume buffered)
          within f m =
              in_all (λ (o : Obj). (goal ≤ o.at) × (end_of o ≤ goal + volume buffered)) (stacked goal buffered) (stacked_within goal buffered) f m

          end : (o : Obj) → In o buffered → end_of o ≤ old
          end o m = in_all (λ (y : Obj). end_of y ≤ old) buffered r.buffers_end o m

          other : (x h : Obj) → In x (reverse_aux payload (reverse_aux fresh low)) → In h buffered → x ≡ h → ⊥
          other x h m k e = elim (reverse_in x payload (reverse_aux fresh low) m) [
            | inl l ↦ r.other x h l k e
            | inr l ↦ elim (reverse_in x fresh low l) [
              | inl i ↦ omega (arith, fresh_above x i, end h k, ap (λ (y : Obj). y.at) e, in_all (λ (o : Obj). 1 ≤ o.len) buffered some_left h k)
              | inr i ↦ omega (
                arith,
                in_all (λ (y : Obj). end_of y ≤ floor) low r.lows x i,
                chain_above floor buffered r.buffers h k,
                ap (λ (y : Obj). end_of y) e,
                in_all (λ (o : Obj). 1 ≤ o.len) buffered some_left h k,
              )
            ]
          ]

          -- all that is not in overflow ends at or below old
          rest_end : (o : Obj) → In o (reverse_aux payload (reverse_aux fresh low)) → (end_of o ≤ old) ⊎ In o fresh
          rest_end o m = elim (reverse_in o payload (reverse_aux fresh low) m) [
            | inl l ↦ inl (in_all (λ (y : Obj). end_of y ≤ old) payload r.segments_end o l)
            | inr l ↦ elim (reverse_in o fresh low l) [
              | inl i ↦ inr i
              | inr i ↦ inl (omega (arith, in_all (λ (y : Obj). end_of y ≤ floor) low r.lows o i, r.rises))
            ]
          ]

          free : (f o : Obj) → In f (stacked goal buffered) → In o buffered ⊎ In o (reverse_aux payload (reverse_aux fresh low)) → Apart f o
          free f o m (inl k) x a b c d = omega (arith, (within f m).0, end o k, r.below_old)
          free f o m (inr k) x a b c d = elim (rest_end o k) [
            | inl l ↦ omega (arith, (within f m).0, r.below_old)
            | inr l ↦ omega (arith, (within f m).1, fresh_above o l)
          ]

          far : (o : Obj) → In o [] ⊎ In o (reverse_aux (stacked goal buffered) (reverse_aux payload (reverse_aux fresh low))) → Misses old goal o
          far o (inl m) x a b c d = absurd m
          far o (inr m) x a b c d = elim (reverse_in o (stacked goal buffered) (reverse_aux payload (reverse_aux fresh low)) m) [
            | inl k ↦ omega (arith, (within o k).0)
            | inr k ↦ elim (rest_end o k) [ inl l ↦ omega arith | inr l ↦ omega (arith, fresh_above o l) ]
          ]

          none : payload ≡ [] → (o : Obj) → In o [] ⊎ In o (reverse_aux (stacked goal buffered) (reverse_aux payload (reverse_aux fresh low)))
              → Misses floor goal o
          none e o (inl m) = absurd m
          none e o (inr m) = aside o (rw e at m)

      -- phases 2 and 3
      middle_safe : (tail : List Act) (now seen : List Obj) → (payload ≡ [] → ⊥)
          → Divided [] (reverse_aux (stacked goal buffered) (reverse_aux payload (reverse_aux fresh low))) now
          → Early payload overs seen
          → ((now' : List Obj) → Divided [] (reverse_aux finals (reverse_aux (stacked goal buffered) (reverse_aux fresh low))) now'
          → Safe tail Post now' now')
          → Safe (pack limit goal payload ++ (spread limit goal payload finals ++ tail)) Post now seen
      middle_safe tail now seen some h early next =
          safe_append Post (pack limit goal payload) (spread limit goal payload finals ++ tail) now seen
          (packing_safe limit floor (Safe (spread limit goal payload finals ++ tail) Post) (reverse payload) turned_some {lo = old} {top = old} (record {
            held = turned payload (next_up (stacked goal buffered) payload (reverse_aux fresh low) h);
            falling = falls;
            sized = all_reverse (Sized limit) payload [] r.sized tt;
            aside = aside;
            clear = early.0;
            room = r.below_old;
            slack = r.below_old;
            below = omega arith;
          }) (λ n k. safe_append Post (spread limit goal payload finals) tail n n
          (spreading_safe limit goal new (Safe tail Post) floor (goal - volume (reverse payload)) (reverse (packed goal (reverse payload))) finals
          (turned (packed goal (reverse payload)) (next_up [] (packed goal (reverse payload)) (reverse_aux (stacked goal buffered) (reverse_aux fresh low)) k))
          (twins_of (reverse (packed goal (reverse payload))) finals (kinds_turned goal payload ∙ r.final_kinds))
          r.final_spread
          (packed_rising goal goal (reverse payload) [] (omega (arith, falling_volume floor old (reverse payload) falls, r.below_old)) refl)
          (all_kinds (λ n l. (1 ≤ l) × (l ≤ limit)) payload (reverse (packed goal (reverse payload))) (sym (kinds_turned goal payload)) r.sized)
          aside r.below_new next)))
        where
          turned_some : reverse payload ≡ [] → ⊥
          turned_some e = some (sym (reverse-reverse payload) ∙ ap reverse e)

          falls : Falling floor old (reverse payload)
          falls = chain_falling floor floor old payload [] (omega arith) r.rises r.segments r.segments_end

      -- phase 4
      settle_safe : (now seen : List Obj) → Divided [] (reverse_aux finals (reverse_aux (stacked goal buffered) (reverse_aux fresh low))) now
          → ((f : Obj) → In f overs → All (λ o. In o (reverse_aux finals low) ⊎ Misses floor goal o) seen)
          → ((now' seen' : List Obj) → Divided [] (reverse_aux overs (reverse_aux finals low)) now' → Post now' seen')
          → Safe (settle goal (buffered ++ fresh) overs) Post now seen
      settle_safe now seen h late next = run_safe Post (λ e. Unit {0}) (stacked goal (buffered ++ fresh)) overs (record {
        held = rw over_is (next_up finals fresh low (next_up finals (stacked goal buffered) (reverse_aux fresh low) h));
        twins = twins_of (stacked goal (buffered ++ fresh)) overs (kinds_stacked goal (buffered ++ fresh) ∙ r.over_kinds);
        chain = stacked_chain goal (buffered ++ fresh);
        some = some;
        other = λ x k m n e. omega (
          arith,
          rest_end x m,
          above k n,
          ap (λ (y : Obj). end_of y) e,
          in_all (λ (o : Obj). 1 ≤ o.len) (stacked goal (buffered ++ fresh)) some k n,
        );
        pairs = r.over_pairs;
        free = free;
        clear = λ f m. all_map (λ o k. seen_apart f m o k) seen (late f m);
      }) (λ z. tt) (λ n k. tt) (λ n e k u. next n e k)
        where
          some : All (λ (o : Obj). 1 ≤ o.len) (stacked goal (buffered ++ fresh))
          some = all_kinds (λ n l. 1 ≤ l) (buffered ++ fresh) (stacked goal (buffered ++ fresh)) (sym (kinds_stacked goal (buffered ++ fresh))) r.some

          above : (o : Obj) → In o (stacked goal (buffered ++ fresh)) → goal ≤ o.at
          above o m = chain_above goal (stacked goal (buffered ++ fresh)) (stacked_chain goal (buffered ++ fresh)) o m

          inside : (f : Obj) → In f overs → (floor ≤ f.at) × (end_of f ≤ new)
          inside f m = in_all (λ (o : Obj). (floor ≤ o.at) × (end_of o ≤ new)) overs r.over_inside f m

          rest_end : (o : Obj) → In o (reverse_aux finals low) → end_of o ≤ goal
          rest_end o m = elim (reverse_in o finals low m) [
            | inl k ↦ omega (arith, spread_within floor new finals r.final_spread o k, r.below_new)
            | inr k ↦ omega (arith, in_all (λ (y : Obj). end_of y ≤ floor) low r.lows o k, r.rises, r.below_old)
          ]

          free : (f o : Obj) → In f overs → In o (stacked goal (buffered ++ fresh)) ⊎ In o (reverse_aux finals low) → Apart f o
          free f o m (inl k) x a b c d = omega (arith, above o k, (inside f m).1, r.below_new)
          free f o m (inr k) x a b c d = elim (reverse_in o finals low k) [
            | inl l ↦ r.over_apart f o m l x a b c d
            | inr l ↦ omega (arith, in_all (λ (y : Obj). end_of y ≤ floor) low r.lows o l, (inside f m).0)
          ]

          seen_apart : (f : Obj) → In f overs → (o : Obj) → In o (reverse_aux finals low) ⊎ Misses floor goal o → Apart f o
          seen_apart f m o (inl k) = free f o m (inr k)
          seen_apart f m o (inr k) = λ x a b c d. k x a b (omega (arith, (inside f m).0)) (omega (arith, (inside f m).1, r.below_new))

  -- phases 2 to 4; without payload objects 2 and 3 are left out
  later_safe : (buffered payload fresh low finals overs now seen : List Obj) {start : List Obj}
      → Ready limit floor old new goal buffered payload fresh low finals overs start
      → Divided [] (reverse_aux (stacked goal buffered) (reverse_aux payload (reverse_aux fresh low))) now → Early payload overs seen
      → Safe (pack limit goal payload ++ (spread limit goal payload finals ++ settle goal (buffered ++ fresh) overs))
      (λ now' seen'. Divided [] (reverse_aux overs (reverse_aux finals low)) now') now seen
  unfolding moves packed
  later_safe buffered [] fresh low [] overs now seen r h early =
      settle_safe r (λ n e. Divided [] (reverse_aux overs low) n) now seen h (λ f m. all_map (λ o k. inr k) seen (early.1 refl f m)) (λ n e k. k)
  later_safe buffered [] fresh low (f ∷ fs) overs now seen r h early = absurd (twins_of [] (f ∷ fs) r.final_kinds)
  later_safe buffered (p ∷ ps) fresh low finals overs now seen r h early =
      middle_safe r (λ n e. Divided [] (reverse_aux overs (reverse_aux finals low)) n) (settle goal (buffered ++ fresh) overs) now seen some h early
      (λ n k. settle_safe r (λ n e. Divided [] (reverse_aux overs (reverse_aux finals low)) n) n n k
      (λ f i. all_in_lem (λ o. In o (reverse_aux finals low) ⊎ Misses floor goal o) n (λ o m. late o (k.sorted o m))) (λ n e k. k))
    where
      some : p ∷ ps ≡ [] → ⊥
      some e = let z : ◌≡◌ {A = ℕ} 0 1 = cc in omega arith

      late : (o : Obj) → In o [] ⊎ In o (reverse_aux finals (reverse_aux (stacked goal buffered) (reverse_aux fresh low)))
          → In o (reverse_aux finals low) ⊎ Misses floor goal o
      late o (inl m) = absurd m
      late o (inr m) = elim (reverse_in o finals (reverse_aux (stacked goal buffered) (reverse_aux fresh low)) m) [
        | inl l ↦ inl (in_reverse o finals low (inl l))
        | inr l ↦ inr (aside r o l)
      ]

  -- THE FOUR PHASES ARE SAFE: then the objects held are those at their final places, and those below the flushed regions
  pub phases_safe : (buffered payload fresh low finals overs now seen : List Obj) → Ready limit floor old new goal buffered payload fresh low finals overs now
      → All (λ (o : Obj). end_of o ≤ old) seen → (payload ≡ [] → buffered ≡ [] → (f : Obj) → In f overs → All (Misses floor goal) seen)
      → Safe (phases limit goal buffered payload fresh finals overs)
      (λ now' seen'. Divided [] (reverse_aux overs (reverse_aux finals low)) now') now seen
  phases_safe buffered payload fresh low finals overs now seen r below bare =
      safe_append (λ n e. Divided [] (reverse_aux overs (reverse_aux finals low)) n) (lift goal buffered)
      (pack limit goal payload ++ (spread limit goal payload finals ++ settle goal (buffered ++ fresh) overs)) now seen
      (lift_safe r (Safe (pack limit goal payload ++ (spread limit goal payload finals ++ settle goal (buffered ++ fresh) overs))
      (λ n e. Divided [] (reverse_aux overs (reverse_aux finals low)) n)) seen below bare
      (λ n e h early. later_safe buffered payload fresh low finals overs n e r h early))
