-- A whole piece taken in rounds: how many rounds are left, and where they lead.
use Rattle.std.proofs.Common.{◌≡◌, refl, ℕ, zero, suc, ◌+◌, ◌≤◌, ◌<◌, arith, List, length}
use Rattle.std.proofs.lemmas.Bool.{lt-ltb, le-ltb}
use Rattle.streams.specs.Answers.{Stream, all_taken, emptied, rounds}
use Rattle.streams.proofs.Taking.{goes_on}

-- so many rounds are left at most, and they lead to where all of the piece leads
pub record Rounds (full : ℕ) (piece : List ℕ) (begun now : Stream) : Type 0 where
  pub left : ℕ
  pub enough : length piece ≤ left + now.next
  pub same : rounds left full piece now ≡ rounds (length piece) full piece begun

module _ {full : ℕ} {piece : List ℕ} where
  -- before the first round
  pub rounds_begun : (s : Stream) → Rounds full piece s s
  rounds_begun s = record { left = length piece; enough = omega arith; same = refl }

  -- a round more
  pub rounds_on : {begun s : Stream} → Rounds full piece begun s → s.next < length piece → s.at ≤ full → (t : Stream) → t ≡ all_taken full piece s
      → Rounds full piece begun (emptied full t)
  unfolding rounds
  rounds_on {begun} {s} r more room t taken = by_left r.left r.enough r.same
    where
      by_left : (n : ℕ) → length piece ≤ n + s.next → rounds n full piece s ≡ rounds (length piece) full piece begun
          → Rounds full piece begun (emptied full t)
      by_left zero enough same = absurd (omega arith)
      by_left (suc n) enough same =
          let on = goes_on full piece s t more room taken in
          record { left = n; enough = omega arith; same = rw taken (rw (lt-ltb s.next (length piece) more) at same) }

  -- the piece has ended
  pub rounds_ended : {begun s : Stream} → Rounds full piece begun s → length piece ≤ s.next → s ≡ rounds (length piece) full piece begun
  unfolding rounds
  rounds_ended {begun} {s} r past = by_left r.left r.same
    where
      by_left : (n : ℕ) → rounds n full piece s ≡ rounds (length piece) full piece begun → s ≡ rounds (length piece) full piece begun
      by_left zero same = same
      by_left (suc n) same = rw (le-ltb s.next (length piece) past) at same
