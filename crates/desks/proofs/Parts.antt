-- A desk is its parts.
use mathlib.Core.Path.{◌≡◌}
use mathlib.Core.List.{List}
use Prim.Native.Nat.{ℕ}
use Rattle.rules.specs.Stores as stores
use Rattle.desks.specs.Desks as desks

-- desks with the same parts are the same
pub same_desk : {s t : stores.Store} {a b : List ℕ} {m n k l : ℕ} → s ≡ t → m ≡ n → k ≡ l → a ≡ b
    → ◌≡◌ {A = desks.Desk} (record { store = s; opened = m; lent = k; area = a }) (record { store = t; opened = n; lent = l; area = b })
same_desk p q u v = rw (p, q, u, v)
