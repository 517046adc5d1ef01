-- A piece taken part by part: how many parts are left, and where they lead.
use Rattle.std.proofs.Common.{◌≡◌, refl, sym, ◌∙◌, subst, ℕ, zero, suc, ◌+◌, ◌≤◌, ◌<◌, arith}
use Rattle.std.proofs.Common.{true, false, cond, ◌&&◌, leb, ltb, List, length}
use Rattle.std.proofs.lemmas.Bool.{ltb-true, ltb-false, lt-ltb, le-ltb, le-leb, lt-leb}
use Rattle.lines.specs.Parts.{line_feed, part_end}
use Rattle.lines.specs.Feeding.{feed_at, fed_of, held_of}
use Rattle.lines.specs.declared.Fed.{Fed}
use Rattle.streams.specs.Answers.{Says, Stream, gone_on, part_taken, taken_by, all_taken}

-- a call of `feed` moves on in the piece
pub goes_on_lem : (piece : List ℕ) (from room len : ℕ) → from < length piece → from < (fed_of piece from room len).next
goes_on_lem piece from room len more = (elim (feed_at piece from) as (λ b. feed_at piece from ≡ b → from < part_end line_feed piece from + cond b 1 0) [
  | true ↦ λ e. omega arith
  | false ↦ λ e. omega (arith, ltb-false (part_end line_feed piece from) (length piece) e)
]) refl

-- a part of a line leads to the place behind it
gone_on-next : (fed : Fed) (says : Says) (line out : List ℕ) (at : ℕ) → (gone_on fed says line out at).next ≡ fed.next
gone_on-next fed says line out at = elim fed.done as (λ b. (gone_on (record fed { done = b }) says line out at).next ≡ fed.next) [
  | true ↦ refl
  | false ↦ refl
]

-- each part has a byte at least
part_taken-next : (piece : List ℕ) (s : Stream) → s.next < length piece → s.next < (part_taken piece s).next
part_taken-next piece s more =
    let fed = fed_of piece s.next (length s.line) s.held in
    omega (arith, gone_on-next fed s.says (held_of piece s.next s.line s.held) s.out s.at, goes_on_lem piece s.next (length s.line) s.held more)

-- so many parts are left at most, and they lead to where all of the piece leads
pub record Taking (full : ℕ) (piece : List ℕ) (begun now : Stream) : Type 0 where
  pub left : ℕ
  pub enough : length piece ≤ left + now.next
  pub same : taken_by left full piece now ≡ all_taken full piece begun

-- where the piece has ended or there is no more room, no part is taken
stopped : (full : ℕ) (piece : List ℕ) (s : Stream) → ((ltb s.next (length piece) && leb s.at full) ≡ false)
    → (n : ℕ) → taken_by n full piece s ≡ s
unfolding taken_by
stopped full piece s e zero = refl
stopped full piece s e (suc n) = rw e

module _ {full : ℕ} {piece : List ℕ} where
  -- before the first part
  pub taking_begun : (s : Stream) → Taking full piece s s
  taking_begun s = record { left = length piece; enough = omega arith; same = refl }

  -- a part more
  taking_more : {begun s : Stream} → Taking full piece begun s → s.next < length piece → s.at ≤ full
      → Taking full piece begun (part_taken piece s)
  unfolding taken_by
  taking_more {begun} {s} t more room = by_left t.left t.enough t.same
    where
      by_left : (n : ℕ) → length piece ≤ n + s.next → taken_by n full piece s ≡ all_taken full piece begun
          → Taking full piece begun (part_taken piece s)
      by_left zero enough same = absurd (omega arith)
      by_left (suc n) enough same =
          let on = part_taken-next piece s more in
          record { left = n; enough = omega arith; same = rw (lt-ltb s.next (length piece) more, le-leb s.at full room) at same }

  -- as the calls take it
  pub taking_on : {begun s : Stream} → Taking full piece begun s → s.next < length piece → s.at ≤ full
      → (fed : Fed) (line : List ℕ) (later : Stream) → fed ≡ fed_of piece s.next (length s.line) s.held → line ≡ held_of piece s.next s.line s.held
      → later ≡ gone_on fed s.says line s.out s.at → Taking full piece begun later
  taking_on {begun} {s} t more room fed line later feeds holds goes =
      let e : later ≡ part_taken piece s = goes ∙ rw (feeds, holds) in
      subst (Taking full piece begun) (sym e) (taking_more t more room)

  -- the piece has ended
  pub taking_ended : {begun s : Stream} → Taking full piece begun s → length piece ≤ s.next → s ≡ all_taken full piece begun
  taking_ended {begun} {s} t past = sym (stopped full piece s (rw (le-ltb s.next (length piece) past)) t.left) ∙ t.same

  -- there is no more room
  pub taking_full : {begun s : Stream} → Taking full piece begun s → s.next < length piece → full < s.at → s ≡ all_taken full piece begun
  taking_full {begun} {s} t more past = sym (stopped full piece s (rw (lt-ltb s.next (length piece) more, lt-leb s.at full past)) t.left) ∙ t.same

-- the parts of a piece lead on in it
taken_by-next : (n full : ℕ) (piece : List ℕ) (s : Stream) → s.next ≤ (taken_by n full piece s).next
unfolding taken_by
taken_by-next zero full piece s = omega arith
taken_by-next (suc n) full piece s =
    let later = taken_by n full piece (part_taken piece s) in
    let on : s.next < length piece → s.next ≤ later.next =
    λ more. omega (arith, part_taken-next piece s more, taken_by-next n full piece (part_taken piece s)) in
    (elim (ltb s.next (length piece)) as (λ b. ltb s.next (length piece) ≡ b → s.next ≤ (cond (b && leb s.at full) later s).next) [
      | false ↦ λ e. omega arith
      | true ↦ λ e. (elim (leb s.at full) as (λ b. s.next ≤ (cond b later s).next) [
        | false ↦ omega arith
        | true ↦ on (ltb-true s.next (length piece) e)
      ])
    ]) refl

-- and where a byte is left and there is room, one at least is taken
pub goes_on : (full : ℕ) (piece : List ℕ) (s t : Stream) → s.next < length piece → s.at ≤ full → t ≡ all_taken full piece s → s.next < t.next
unfolding taken_by
goes_on full piece s t more room taken = rw taken (by_length (length piece) (omega arith))
  where
    by_length : (n : ℕ) → 0 < n → s.next < (taken_by n full piece s).next
    by_length zero some = absurd (omega arith)
    by_length (suc n) some =
        rw (lt-ltb s.next (length piece) more, le-leb s.at full room)
        (omega (arith, part_taken-next piece s more, taken_by-next n full piece (part_taken piece s)))
