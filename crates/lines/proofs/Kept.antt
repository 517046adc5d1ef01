-- What a call of `feed` answers and leaves in the line buffer.
use mathlib.Core.Path.{◌≡◌, sym, ◌∙◌}
use mathlib.Core.Bool.{true, false}
use mathlib.Core.List.{List, [], ◌++◌, append_assoc}
use Prim.Native.Nat.{ℕ, ◌+◌, ◌-◌, ◌≤◌, ◌<◌}
use native.Mathlib.Nat.{sub-zero, add-zero}
use native.Mathlib.Omega.{arith}
use borrow.Author.Tests.{lt-ltb, le-ltb}
use lib.ListN.{length, take, drop, drop_of_length-le}
use lib.Seq.{paste, paste-zero, drop-drop}
use Rattle.lines.specs.Parts.{line_feed, part_end}
use Rattle.lines.specs.Feeding.{part_from, kept_of, fed_of, held_of}
use Rattle.lines.proofs.Parting.{first_none, part_taken}

-- so many bytes of a part are kept, of which some are
module _ (part line : List ℕ) (len n : ℕ) (keeps : n ≡ kept_of (length line) len (length part)) where
  pub keep_some : (end : ℕ) (copied : List ℕ) → (n ≡ 0 → ⊥) → end ≡ len + n
      → copied ≡ take (n - 0) part
      → (end ≡ len + kept_of (length line) len (length part))
      × (take len line ++ (copied ++ drop (end - len) (drop len line)) ≡ paste line len part (kept_of (length line) len (length part)))
  keep_some end copied some ends copies =
      let m : end - len ≡ n = omega arith in
      let whole : copied ≡ take n part = rw (sub-zero n) at copies in
      rw (← keeps) (ends, rw (whole, m, drop-drop n len line) (sym (append_assoc (take len line) (take n part) (drop (len + n) line))))

-- a call past the piece's end, one that comes to its end, and one that comes to a line feed
module _ (piece : List ℕ) (from : ℕ) (line : List ℕ) (len : ℕ) where
  pub feed_none : length piece ≤ from
      → (record { next = from; len = len; done = false } ≡ fed_of piece from (length line) len) × (line ≡ held_of piece from line len)
  feed_none past =
      let e : part_from piece from ≡ [] = rw (drop_of_length-le piece past) (first_none line_feed) in
      let z : kept_of (length line) len (length (part_from piece from)) ≡ 0 = rw e (omega arith) in
      (rw (z, e, add-zero from, le-ltb from (length piece) past, add-zero from, add-zero len), rw z (paste-zero line len (part_from piece from)))

  module _ (end : ℕ) (ends : end ≡ part_end line_feed piece from) (part : List ℕ) (parts : part ≡ take (end - from) (drop from piece)) (held : ℕ)
      (after : List ℕ)
      (keeps : (held ≡ len + kept_of (length line) len (length part)) × (after ≡ paste line len part (kept_of (length line) len (length part)))) where
    whole_part : part ≡ part_from piece from
    whole_part = parts ∙ part_taken line_feed piece from end ends

    feed_held : after ≡ held_of piece from line len
    feed_held = keeps.1 ∙ rw whole_part

    held_now : held ≡ len + kept_of (length line) len (length (part_from piece from))
    held_now = keeps.0 ∙ rw whole_part

    pub feed_begun : length piece ≤ end
        → (record { next = end; len = held; done = false } ≡ fed_of piece from (length line) len) × (after ≡ held_of piece from line len)
    feed_begun past = (rw (← ends, le-ltb end (length piece) past, add-zero end, held_now), feed_held)

    pub feed_done : end < length piece
        → (record { next = end + 1; len = held; done = true } ≡ fed_of piece from (length line) len) × (after ≡ held_of piece from line len)
    feed_done before = (rw (← ends, lt-ltb end (length piece) before, held_now), feed_held)
