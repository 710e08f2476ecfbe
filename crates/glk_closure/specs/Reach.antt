-- What is kept: the least set of facts that is closed under the rules. No work list and no marks.
use Rattle.std.specs.Prelude.{◌≡◌, ◌<◌, ◌⊎◌, ◌&&◌, ◌||◌, nat_le, ℕ, Bool, false, List, [], ◌∷◌, Option, Some, IsTrue}
use Rattle.std.specs.List.{Contains}
use Rattle.glk_closure.specs.declared.effect.Targets.{Targets}
use Rattle.glk_closure.specs.Graph.{Graph, Effect, Keeps, Links, Funcdata, Uses, Calls, Names, Method}
use Rattle.glk_closure.specs.Views.{OneOf}

-- what can be said of a symbol, or of the methods that are called
pub data Fact : Type 0 where
  -- this symbol goes into the image
  Kept : ℕ → Fact
  -- this type may be in an interface
  Iface : ℕ → Fact
  -- methods of this name and type are called
  Sig : List ℕ → ℕ → Fact
  -- methods of this name are called
  Named : List ℕ → Fact
  -- methods with an exported name are called, by reflection
  Reflect : Fact

-- symbol k has this effect
abbrev pub Has : Graph → ℕ → Effect → Type 0
Has g k e = Contains (g.effects k) e

-- a strong relocation of symbol k, of a plain kind, has this target
abbrev pub Refers : Graph → ℕ → ℕ → Type 0
Refers g k t = Has g k (Keeps t) ⊎ Has g k (Links t)

-- a name that is exported: its first byte is A to Z, or at least 0x80
abbrev pub is_exported : List ℕ → Bool
is_exported [] = false
is_exported (b ∷ bs) = (nat_le 65 b && nat_le b 90) || nat_le 128 b

-- a fact that calls a method of this name with these targets: by its name and type, which is the first
-- target, by its name alone, or by reflection where the name is exported
pub data Wakes (name : List ℕ) (x : Targets) : Fact → Type 0 where
  by_sig : (a : ℕ) → x.first ≡ Some a → Wakes name x (Sig name a)
  by_name : Wakes name x (Named name)
  by_reflection : IsTrue (is_exported name) → Wakes name x Reflect

-- one rule gives the fact, from facts that hold. K1 keeps the roots. K2 keeps what a kept symbol refers
-- to, K3 its funcdata. I1 gives Iface where an object says so, I2 from a kept type with Iface to the
-- types it links to, I3 to a type that a kept symbol converts, I4 to the type of each method of a kept
-- type with Iface. S1, G1 and F1 are the calls of methods by a kept symbol: by name and type, by name,
-- by reflection. M1 keeps the targets of a method that is called, of a kept type with Iface. No rule
-- concludes a fact about a symbol without a definition: that it is kept, that it has Iface, or that
-- methods of this type are called.
pub data Step (g : Graph) (holds : Fact → Type 0) : Fact → Type 0 where
  K1 : (r : ℕ) → Contains g.roots r → IsTrue (g.defined r) → Step g holds (Kept r)
  K2 : (k t : ℕ) → holds (Kept k) → Refers g k t → IsTrue (g.defined t) → Step g holds (Kept t)
  K3 : (k t : ℕ) → holds (Kept k) → Has g k (Funcdata t) → IsTrue (g.defined t) → Step g holds (Kept t)
  I1 : (k : ℕ) → k < g.keys → IsTrue (g.flagged k) → IsTrue (g.defined k) → Step g holds (Iface k)
  I2 : (k t : ℕ) → holds (Kept k) → holds (Iface k) → Has g k (Links t) → IsTrue (g.defined t) → Step g holds (Iface t)
  I3 : (k t : ℕ) → holds (Kept k) → Has g k (Uses t) → IsTrue (g.defined t) → Step g holds (Iface t)
  I4 : (k t : ℕ) (n : Option (List ℕ)) (x : Targets) → holds (Kept k) → holds (Iface k) → Has g k (Method n x) → x.first ≡ Some t → IsTrue (g.defined t) → Step g holds (Iface t)
  S1 : (k t : ℕ) (n : List ℕ) → holds (Kept k) → Has g k (Calls n t) → IsTrue (g.defined t) → Step g holds (Sig n t)
  G1 : (k : ℕ) (n : List ℕ) → holds (Kept k) → Has g k (Names n) → Step g holds (Named n)
  F1 : (k : ℕ) → holds (Kept k) → IsTrue (g.reflects k) → Step g holds Reflect
  M1 : (k t : ℕ) (n : List ℕ) (x : Targets) (f : Fact) → holds (Kept k) → holds (Iface k) → Has g k (Method (Some n) x) → Wakes n x f → holds f → OneOf t x → IsTrue (g.defined t) → Step g holds (Kept t)

-- a derivation, the newest fact first: each fact is given by a rule from facts after it in the list
abbrev pub IsDerivation : Graph → List Fact → Type 0
IsDerivation g [] = Unit {0}
IsDerivation g (f ∷ earlier) = Step g (Contains earlier) f × IsDerivation g earlier

-- the facts of derivations
abbrev pub Reach : Graph → Fact → Type 0
Reach g f = (d : List Fact) × IsDerivation g d × Contains d f
