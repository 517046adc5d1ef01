-- Law 10: at rest no byte of a page held, or in the last map kept, lies in the unused part of a buffer or at or above F.
-- Held objects lie in payloads and used parts, which meet no unused part; and every request that stays at rest only lessens
-- what is unused, so that kept pages stay clear. What an insert writes was unused.
use mathlib.Core.Path.{◌≡◌, refl, sym, ap, ◌∙◌}
use mathlib.Core.Logic.{◌⊎◌, inl, inr}
use mathlib.Core.Bool.{Bool, true, false, cond}
use mathlib.Core.List.{List}
use Prim.Native.Nat.{ℕ, zero, suc, ◌+◌, ◌-◌, ◌/◌, ◌≤◌, ◌<◌}
use native.Mathlib.Omega.{arith}
use native.Mathlib.Nat.{zero-div}
use lib.Dec.{ltb, eqb}
use borrow.Author.Tests.{ltb-false, eqb-true, eqb-false}
use Rattle.rules.specs.House.{classes}
use Rattle.rules.specs.Classes.{Obj, cls, end_of}
use Rattle.rules.specs.Regions.{Regions, col, span, buffer_size, extent, start_of, buffer_start, footprint, top_from, top_class}
use Rattle.rules.specs.Placing.{put, entered, raised}
use Rattle.rules.proofs.Lists.{All, all_map}
use Rattle.rules.proofs.Tables.{trio, span_add, span_same, span_zero}
use Rattle.rules.proofs.Puts.{put_here, put_off}
use Rattle.rules.proofs.Facts.{Payload, InBuffer, Lies}
use Rattle.rules.proofs.Geometry.{start_next, climbs, region_ends, starts_agree}

-- byte x lies in the unused part of a buffer
pub record Spare (q : ℕ) (t : Regions) (x : ℕ) : Type 0 where
  pub number : ℕ
  pub least : 1 ≤ number
  pub most : number ≤ classes
  pub from : buffer_start q t.sizes number + col t.useds number ≤ x
  pub upto : x < buffer_start q t.sizes number + buffer_size q t.sizes number

-- byte x is unused: in the unused part of a buffer, or at or above F
abbrev pub Unused : ℕ → Regions → ℕ → Type 0
Unused q t x = Spare q t x ⊎ (footprint q t.sizes ≤ x)

-- no byte of an object is unused
abbrev pub Clear : ℕ → Regions → Obj → Type 0
Clear q t o = (x : ℕ) → o.at ≤ x → x < end_of o → Unused q t x → ⊥

module _ (q : ℕ) (t : Regions) (o : Obj) where
  -- an object in the payload of its class is clear
  pub payload_clear : 1 ≤ cls o → cls o ≤ classes → Payload q t o → Clear q t o
  payload_clear l m p x a b (inr u) = omega (arith, region_ends q t.sizes (cls o) l m)
  payload_clear l m p x a b (inl s) = elim (trio s.number (cls o)) [
    | inl k ↦ omega (arith, s.upto, climbs q t.sizes s.number (cls o) s.least k)
    | inr h ↦ elim h [
      | inl e ↦ omega (arith, s.from, ap (buffer_start q t.sizes) e)
      | inr k ↦ omega (arith, s.from, climbs q t.sizes (cls o) s.number l k)
    ]
  ]

  -- so is one in the used part of a buffer
  pub buffer_clear : (j : ℕ) → 1 ≤ j → j ≤ classes → col t.useds j ≤ buffer_size q t.sizes j → InBuffer q t o j → Clear q t o
  buffer_clear j l m f i x a b (inr u) = omega (arith, i.upto, region_ends q t.sizes j l m)
  buffer_clear j l m f i x a b (inl s) = elim (trio s.number j) [
    | inl k ↦ omega (arith, s.upto, i.from, climbs q t.sizes s.number j s.least k)
    | inr h ↦ elim h [
      | inl e ↦ omega (arith, s.from, i.upto, ap (λ (c : ℕ). buffer_start q t.sizes c + col t.useds c) e)
      | inr k ↦ omega (arith, s.from, i.upto, climbs q t.sizes j s.number l k)
    ]
  ]

-- every object held at rest is clear
pub held_clear : (q : ℕ) (t : Regions) → ((i : ℕ) → 1 ≤ i → i ≤ classes → col t.useds i ≤ buffer_size q t.sizes i)
    → (o : Obj) → 1 ≤ cls o → cls o ≤ classes → Lies q t o → Clear q t o
held_clear q t f o l m (inl p) = payload_clear q t o l m p
held_clear q t f o l m (inr b) = buffer_clear q t o b.number b.least b.most (f b.number b.least b.most) b.inside

-- an entry or a record lessens what is unused
pub entered_unused : (q : ℕ) (t : Regions) (j c n : ℕ) → j ≤ classes → (x : ℕ) → Unused q (entered t j c n) x → Unused q t x
entered_unused q t j c n l x (inr u) = inr u
entered_unused q t j c n l x (inl s) = inl (record {
  number = s.number;
  least = s.least;
  most = s.most;
  from = less (eqb s.number j) refl;
  upto = s.upto;
})
  where
    less : (b : Bool) → eqb s.number j ≡ b → buffer_start q t.sizes s.number + col t.useds s.number ≤ x
    less true e =
        let p = eqb-true s.number j e in
        omega (arith, s.from, ap (col (put j (col t.useds j + n) t.useds)) p, put_here j (col t.useds j + n) t.useds l, ap (col t.useds) p)
    less false e = omega (arith, s.from, put_off j (col t.useds j + n) t.useds s.number s.most (eqb-false s.number j e))

-- where an entry goes was unused
pub entry_unused : (q : ℕ) (t : Regions) (j n : ℕ) → 1 ≤ j → j ≤ classes → col t.useds j + n ≤ buffer_size q t.sizes j
    → (x : ℕ) → buffer_start q t.sizes j + col t.useds j ≤ x → x < buffer_start q t.sizes j + col t.useds j + n → Unused q t x
entry_unused q t j n l m r x a b = inl (record { number = j; least = l; most = m; from = a; upto = omega arith })

-- above the top class no payload has a size
pub above_top : (sizes : List ℕ) (k i : ℕ) → top_from sizes k < i → i ≤ k → col sizes i ≡ 0
unfolding top_from
above_top sizes zero i l m = absurd (omega arith)
above_top sizes (suc k) i l m =
    (elim (ltb 0 (col sizes (suc k))) as (λ b. ltb 0 (col sizes (suc k)) ≡ b → cond b (suc k) (top_from sizes k) < i → col sizes i ≡ 0) [
      | true ↦ λ e h. absurd (omega arith)
      | false ↦ λ e h. elim (trio i (suc k)) [
        | inl a ↦ above_top sizes k i h (omega arith)
        | inr w ↦ elim w [ inl q ↦ rw q (omega (arith, ltb-false 0 (col sizes (suc k)) e)) | inr a ↦ absurd (omega arith) ]
      ]
    ]) refl l

-- where nothing has a size from class c on, region c starts at F
pub start_footprint : (q : ℕ) (sizes : List ℕ) (c : ℕ) → 1 ≤ c → c ≤ suc classes
    → ((i : ℕ) → c ≤ i → i ≤ classes → col sizes i ≡ 0)
    → start_of q sizes c ≡ footprint q sizes
start_footprint q sizes c l m bare =
    let f = extent q sizes in
    let e : (c - 1) + (suc classes - c) ≡ classes = omega arith in
    let d : 1 + (c - 1) ≡ c = omega arith in
    omega (
      arith,
      ap (span f 1) e,
      span_add f 1 (c - 1) (suc classes - c),
      ap (λ (k : ℕ). span f k (suc classes - c)) d,
      span_same f (λ i. 0) c (suc classes - c) (λ i a b. nothing i a (omega arith)),
      span_zero c (suc classes - c),
    )
  where
    nothing : (i : ℕ) → c ≤ i → i ≤ classes → extent q sizes i ≡ 0
    nothing i a b = rw (bare i a b) (omega (arith, zero-div q))

module _ (q : ℕ) (t : Regions) (c n : ℕ) (low : 1 ≤ c) (high : c ≤ classes) (top : top_class t.sizes < c) where
  -- above the top class nothing has a size
  pub bare : (i : ℕ) → c ≤ i → i ≤ classes → col t.sizes i ≡ 0
  bare i a b = above_top t.sizes classes i (omega arith) b

  -- the regions below the raised class are the old ones
  pub raised_below : (i : ℕ) → i ≤ c → start_of q (raised t c n).sizes i ≡ start_of q t.sizes i
  raised_below i l = starts_agree q (raised t c n).sizes t.sizes i (λ k a b. put_off c n t.sizes k (omega arith) (λ e. omega arith))

  -- and it starts at F
  pub raised_start : start_of q (raised t c n).sizes c ≡ footprint q t.sizes
  raised_start = raised_below c (omega arith) ∙ start_footprint q t.sizes c low (omega arith) bare

  -- F grows by the new region
  pub raised_footprint : footprint q (raised t c n).sizes ≡ footprint q t.sizes + (n + n / q)
  raised_footprint =
      sym (start_footprint q (raised t c n).sizes (suc c) (omega arith) (omega arith)
      (λ i a b. put_off c n t.sizes i b (λ e. omega arith) ∙ bare i (omega arith) b))
      ∙ (start_next q (raised t c n).sizes c low
      ∙ omega (arith, raised_start, ap (λ (x : ℕ). x + x / q) (put_here c n t.sizes high)))

  -- a new region above the top class lessens what is unused
  pub raised_unused : (x : ℕ) → Unused q (raised t c n) x → Unused q t x
  raised_unused x (inr u) = inr (omega (arith, raised_footprint))
  raised_unused x (inl s) = elim (trio s.number c) [
    | inl k ↦ inl (record {
      number = s.number;
      least = s.least;
      most = s.most;
      from = omega (arith, s.from, raised_below s.number (omega arith), same (λ e. omega arith));
      upto = omega (arith, s.upto, raised_below s.number (omega arith), same (λ e. omega arith), ap (λ (y : ℕ). y / q) (same (λ e. omega arith)));
    })
    | inr h ↦ elim h [
      | inl e ↦ inr (omega (arith, s.from, ap (start_of q (raised t c n).sizes) e, raised_start))
      | inr k ↦ absurd (omega (
        arith,
        s.upto,
        s.from,
        ap (λ (y : ℕ). y / q) (same (λ e. omega arith) ∙ bare s.number (omega arith) s.most),
        zero-div q,
      ))
    ]
  ]
    where
      same : (s.number ≡ c → ⊥) → col (raised t c n).sizes s.number ≡ col t.sizes s.number
      same d = put_off c n t.sizes s.number s.most d

-- what shrinks leaves kept pages clear
pub stays_clear : (q : ℕ) (t u : Regions) → ((x : ℕ) → Unused q u x → Unused q t x) → (kept : List Obj) → All (Clear q t) kept
    → All (Clear q u) kept
stays_clear q t u less kept h = all_map (λ o k x a b w. k x a b (less x w)) kept h
