-- The rules Y1 to Y5 of type data, said of the data. Each reading has a table: what each rule asks, and the offset
-- that is reported where the rule is broken. Its fault is the broken rule of least number.
use Rattle.std.specs.Prelude.{◌≡◌, ◌≢◌, ◌+◌, ◌*◌, ◌/◌, ◌%◌, ◌^◌, ◌<◌, ◌≤◌, ◌==◌, ◌⊎◌, ℕ, ℤ, List, Option, length, slice_index, true, MatchBool, MatchOption}
use Rattle.std.specs.Option.{option_map_or}
use Rattle.glk_types.specs.Abi.{abi_type, abi_uncommon_type, abi_method, abi_imethod, abi_kind}
use Rattle.glk_types.specs.Targets.{offset_of}
use Rattle.glk_types.specs.Types.{kind_of, has_uncommon, uncommon_offset, method_count, methods_offset, entry_offset, methodoff_offset}

-- a reading keeps all rules of its table
abbrev pub Keeps : (ℕ → Type 0) → Type 0
Keeps Asks = (rule : ℕ) → Asks rule

-- the broken rule of least number, and the offset that it reports
pub record IsFault (Asks : ℕ → Type 0) (Reports : ℕ → ℕ → Type 0) (rule offset : ℕ) : Type 0 where
  pub broken : Asks rule → ⊥
  pub before : (k : ℕ) → k < rule → Asks k
  pub reported : Reports rule offset

-- what a reading answers: none where all rules are kept, else that fault
abbrev pub IsAnswerBy : (ℕ → Type 0) → (ℕ → ℕ → Type 0) → Option (ℕ × ℕ) → Type 0
IsAnswerBy Asks Reports fault = MatchOption fault (Keeps Asks) (λ found. IsFault Asks Reports found.0 found.1)

-- Y1: the data are long enough for abi.Type.
abbrev pub HasHeader : List ℕ → Type 0
HasHeader b = abi_type.bytes ≤ length b

-- Y2: what is called through an interface is a method of an interface type.
abbrev pub IsInterface : List ℕ → Type 0
IsInterface b = kind_of b ≡ abi_kind.interface

-- Y3: a type with methods is no interface, and an uncommon part follows.
abbrev pub HasMethods : List ℕ → Type 0
HasMethods b = (kind_of b ≢ abi_kind.interface) × (has_uncommon b ≡ true)

-- Y4: the uncommon part and the methods are inside the data.
abbrev pub HasUncommonInside : List ℕ → Type 0
HasUncommonInside b = uncommon_offset b + abi_uncommon_type.bytes ≤ length b

abbrev pub HasMethodsInside : List ℕ → Type 0
HasMethodsInside b = (k : ℕ) → k < method_count b → entry_offset (methods_offset b) k + abi_method.bytes ≤ length b

-- Y4: the method of an interface is inside the data.
abbrev pub HasImethodInside : List ℕ → ℤ → Type 0
HasImethodInside b addend = MatchOption (offset_of addend) ⊥ (λ at. at + abi_imethod.bytes ≤ length b)

-- Item j of the METHODOFF offsets is that of METHODOFF number j of the methods.
abbrev pub IsMethodoff : List ℕ → List ℕ → ℕ → Type 0
IsMethodoff b offsets j = (j < 3 * method_count b) × (slice_index offsets j ≡ methodoff_offset (methods_offset b) j)

-- Y5: the METHODOFF offsets are, in order, those of the methods.
abbrev pub HasMethodoffs : List ℕ → List ℕ → Type 0
HasMethodoffs b offsets =
    (length offsets ≡ 3 * method_count b) × ((j : ℕ) → j < length offsets → IsMethodoff b offsets j)

-- The first METHODOFF offset that differs.
pub record IsFirstOther (b offsets : List ℕ) (offset : ℕ) : Type 0 where
  pub index : ℕ
  pub inside : index < length offsets
  pub before : (j : ℕ) → j < index → IsMethodoff b offsets j
  pub other : IsMethodoff b offsets index → ⊥
  pub at : offset ≡ slice_index offsets index

-- All are those of the methods, and this is the method whose entry lacks the next.
pub record IsFirstLacking (b offsets : List ℕ) (offset : ℕ) : Type 0 where
  pub all : (j : ℕ) → j < length offsets → IsMethodoff b offsets j
  pub lacks : length offsets < 3 * method_count b
  pub at : offset ≡ entry_offset (methods_offset b) (length offsets / 3)

-- What a reading of the header alone asks.
abbrev pub HeaderAsks : List ℕ → ℕ → Type 0
HeaderAsks b rule = MatchBool (rule == 1) (HasHeader b) (Unit {0})

abbrev pub HeaderReports : List ℕ → ℕ → ℕ → Type 0
HeaderReports b rule offset = MatchBool (rule == 1) (offset ≡ length b) ⊥

-- What a reading of methods asks.
abbrev pub MethodsAsk : List ℕ → List ℕ → ℕ → Type 0
MethodsAsk b offsets rule =
    MatchBool (rule == 1) (HasHeader b)
    (MatchBool (rule == 3) (HasMethods b)
    (MatchBool (rule == 4) (HasUncommonInside b × HasMethodsInside b)
    (MatchBool (rule == 5) (HasMethodoffs b offsets) (Unit {0}))))

abbrev pub MethodsReport : List ℕ → List ℕ → ℕ → ℕ → Type 0
MethodsReport b offsets rule offset =
    MatchBool (rule == 1) (offset ≡ length b)
    (MatchBool (rule == 3) (offset ≡ abi_type.tflag)
    (MatchBool (rule == 4) (offset ≡ uncommon_offset b)
    (MatchBool (rule == 5) (IsFirstOther b offsets offset ⊎ IsFirstLacking b offsets offset) ⊥)))

-- What a reading of an interface's method at an addend asks.
abbrev pub ImethodAsks : List ℕ → ℤ → ℕ → Type 0
ImethodAsks b addend rule =
    MatchBool (rule == 1) (HasHeader b)
    (MatchBool (rule == 2) (IsInterface b)
    (MatchBool (rule == 4) (HasImethodInside b addend) (Unit {0})))

-- Y4 reports 0 for a negative addend, else the low 32 bits.
abbrev pub ImethodReports : List ℕ → ℤ → ℕ → ℕ → Type 0
ImethodReports b addend rule offset =
    MatchBool (rule == 1) (offset ≡ length b)
    (MatchBool (rule == 2) (offset ≡ abi_type.kind_)
    (MatchBool (rule == 4) (offset ≡ option_map_or (λ at. at % 2 ^ 32) (offset_of addend) 0) ⊥))
