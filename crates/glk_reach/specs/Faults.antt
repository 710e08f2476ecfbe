-- The refusals over the finished set of facts.
use Rattle.std.specs.Prelude.{◌≡◌, ℕ, ◌==◌, Bool, List, [], ◌∷◌, length, Option, Some, None, if◌then◌else◌}
use Rattle.std.specs.Option.{option_map, option_or}
use Rattle.std.specs.List.{range_with_len}
use Rattle.glk_closure.specs.Reach.{Fact, Kept}
use Rattle.glk_keys.specs.Programs.{Program}
use Rattle.glk_keys.specs.Names.{key_name, missing_name}
use Rattle.glk_keys.specs.Rows.{row_at}
use Rattle.glk_readings.specs.declared.symbols.TargetSymbol.{TargetSymbol}
use Rattle.glk_readings.specs.declared.symbols.TargetSymbol.TheVariants as symbol
use Rattle.glk_reach.specs.Chosen.{of_definition}
use Rattle.glk_readings.specs.declared.unreadable.Unreadable.{Unreadable}
use Rattle.glk_readings.specs.declared.unreadable.Unreadable.TheVariants.{Breaks, Lacks}
use Rattle.glk_reach.specs.Graphs.{AreFacts, entry_keys}
use Rattle.glk_reach.specs.KeptLists.{kept_list}
use Rattle.glk_reach.specs.KindFaults.{kind_fault}
use Rattle.glk_reach.specs.Reasons.{reasons_of}
use Rattle.glk_reach.specs.RelocFaults.{reloc_fault}

-- Symbols are told by their keys: the one that is at fault, the one in which the offset of a rule of type data counts, and the one that
-- refers to a symbol without a definition. The entry may be without a definition itself.
pub data ReachFault : Type 0 where
  undefined_entry : ReachFault
  kind_bad : (key rule : ℕ) → ReachFault
  reloc_bad : (key rule index : ℕ) → ReachFault
  type_bad : (holder rule offset : ℕ) → ReachFault
  undefined : (holder : ℕ) (target : TargetSymbol) → ReachFault

-- the first answer along a list
abbrev pub first_some : {A B : Type 0} → (A → Option B) → List A → Option B
first_some answer [] = None
first_some answer (x ∷ later) = option_or (answer x) (first_some answer later)

-- a reason that is this rule of type data
abbrev pub breaks_rule : ℕ → Unreadable → Option ReachFault
breaks_rule rule (Breaks holder other offset) = if other == rule then Some (type_bad holder other offset) else None
breaks_rule rule (Lacks holder target) = None

-- a reason that is a missing definition
abbrev pub lacks_definition : Unreadable → Option ReachFault
lacks_definition (Breaks holder rule offset) = None
lacks_definition (Lacks holder target) = Some (undefined holder target)

-- the rules of type data, by their numbers
abbrev pub type_rules : List ℕ
type_rules = range_with_len 1 8

-- of the broken rules of type data the one of least number, at its first place
unfoldable pub type_fault : Program → (Fact → Bool) → ℕ → Option ReachFault
type_fault p facts k = first_some (λ rule. first_some (breaks_rule rule) (reasons_of p facts k)) type_rules

-- the first of the missing definitions
unfoldable pub undefined_of : Program → (Fact → Bool) → ℕ → Option ReachFault
undefined_of p facts k = first_some lacks_definition (reasons_of p facts k)

-- The fault of a kept symbol: its kind before its relocations, these before type data, and these before missing definitions.
unfoldable pub symbol_fault : Program → (Fact → Bool) → ℕ → Option ReachFault
symbol_fault p facts k =
    option_or (option_map (λ rule. kind_bad k rule) (kind_fault p k))
    (option_or (option_map (λ fault. reloc_bad k fault.0 fault.1) (reloc_fault p k))
    (option_or (type_fault p facts k) (undefined_of p facts k)))

-- the fault of the first kept symbol that has one
unfoldable pub first_fault : Program → (Fact → Bool) → List ℕ → Option ReachFault
first_fault p facts list = first_some (symbol_fault p facts) list

-- The fault of a program: that its entry has no definition in either ABI, and then nothing else is looked at; else that of its kept
-- symbols, in their order.
abbrev pub reach_fault : Program → (Fact → Bool) → Option ReachFault
reach_fault p facts =
    if length (entry_keys p) == 0 then Some undefined_entry
    else first_fault p facts (kept_list p (λ k. facts (Kept k)))

-- the refusal of a program, if there is one, by what decides its facts
abbrev pub IsReachFault : Program → (tasks : List ℕ) → Option ReachFault → Type 0
IsReachFault p tasks fault = (facts : Fact → Bool) × AreFacts p tasks facts × (reach_fault p facts ≡ fault)

-- What is told of a missing definition.

-- the object of a key's chosen definition
abbrev pub object_of : Program → ℕ → ℕ
object_of p k = of_definition p k (λ r. (row_at p r).object) 0

-- the name of a symbol to which another refers
abbrev pub referred_name : Program → (holder : ℕ) → TargetSymbol → List ℕ
referred_name p holder (symbol.Key t) = key_name p t
referred_name p holder (symbol.Missing pkg index) = missing_name p (object_of p holder) pkg index
