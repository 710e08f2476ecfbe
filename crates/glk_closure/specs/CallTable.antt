-- The calls of the rows, and the maps that find them.
use Rattle.std.specs.Prelude.{◌≡◌, ◌↔◌, ℕ, Bool, List, Option, Some, map, nat_eq, ◌&&◌}
use Rattle.std.specs.List.{Contains}
use Rattle.std.specs.Cmp.Lexicographic.{pointwise}
use Rattle.std.specs.HashMap.{HashMap, get}
use Rattle.glk_closure.specs.declared.call.Call.{Call}
use Rattle.glk_closure.specs.declared.call.Call.TheVariants as call
use Rattle.glk_closure.specs.declared.name.Name.{Name}
use Rattle.glk_closure.specs.declared.name.Signature.{Signature}
use Rattle.glk_closure.specs.Reach.{Fact, Sig, Named, Reflect}
use Rattle.glk_closure.specs.Rows.{Stands}

-- the code's calls as facts
abbrev pub fact_of : Call → Fact
fact_of (call.Sig n t) = Sig n.now t
fact_of (call.Named n) = Named n.now
fact_of call.Reflect = Reflect

abbrev pub facts_of : List Call → List Fact
facts_of calls = map fact_of calls

-- equality of the keys of the maps
abbrev pub name_eq : Name → Name → Bool
name_eq x y = pointwise nat_eq x.bytes.now y.bytes.now

abbrev pub signature_eq : Signature → Signature → Bool
signature_eq x y = nat_eq x.named y.named && nat_eq x.of y.of

-- row r is that of a name and the type `of`, where `named` is the row of the name
abbrev pub IsSigRow : List Fact → ℕ → ℕ → ℕ → Type 0
IsSigRow facts named of r = (n : List ℕ) × Stands facts named (Named n) × Stands facts r (Sig n of)

-- the maps find exactly the rows, and a name and type has its name's row beside it
pub record Fits {S T : Type 0} (facts : List Fact) (names : HashMap Name ℕ S) (by_type : HashMap Signature ℕ T) (row : Option ℕ) : Type 0 where
  pub named : (q : Name) (r : ℕ) → Stands facts r (Named q.bytes.now) ↔ (get name_eq names q ≡ Some r)
  pub sigs : (q : Signature) (r : ℕ) → IsSigRow facts q.named q.of r ↔ (get signature_eq by_type q ≡ Some r)
  pub beside : (n : List ℕ) (t r : ℕ) → Stands facts r (Sig n t) → Contains facts (Named n)
  pub reflection : (r : ℕ) → Stands facts r Reflect ↔ (row ≡ Some r)
