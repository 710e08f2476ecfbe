-- What is read of type data. A reading finds a value; or it meets a broken rule, and tells the symbol in which the reported offset
-- counts; or it meets a symbol without a definition, and tells the symbol that refers to it.
use Rattle.std.specs.Prelude.{ℕ, ℤ, ◌+◌, nat_lt, List, map, filter, Bool, Option, Some, None, Result, Ok, Err, unwrap_or, if◌then◌else◌}
use Rattle.glk_types.specs.Abi.{abi_type, abi_method, abi_imethod, abi_itab}
use Rattle.glk_types.specs.Faults.{header_fault, methods_fault, imethod_fault}
use Rattle.glk_types.specs.Names.{name_at, string_of}
use Rattle.glk_types.specs.Targets.{offset_of}
use Rattle.glk_types.specs.Types.{has_extra_star, method_count, methods_offset, entry_offset}
use Rattle.glk_readings.specs.declared.symbols.Relocation.{Relocation}
use Rattle.glk_readings.specs.declared.symbols.TargetSymbol.{TargetSymbol}
use Rattle.glk_readings.specs.declared.symbols.TargetSymbol.TheVariants as symbol
use Rattle.glk_readings.specs.declared.unreadable.Unreadable.{Unreadable}
use Rattle.glk_readings.specs.declared.unreadable.Unreadable.TheVariants.{Breaks, Lacks}
use Rattle.glk_readings.specs.References.{reference_at}
use Rattle.glk_readings.specs.Symbols.{SymbolTable}

abbrev pub Reading : Type 0 → Type 0
Reading A = Result A Unreadable

-- the numbers of the rules that readings of references break
abbrev pub no_target_rule : ℕ
no_target_rule = 6

abbrev pub name_rule : ℕ
name_rule = 7

-- a reading that goes on from what another finds
abbrev pub read_then : {A B : Type 0} → Reading A → (A → Reading B) → Reading B
read_then (Ok x) next = next x
read_then (Err why) next = Err why

-- the data of the holder break a rule, with this offset
abbrev pub broken_by : (holder : ℕ) → ℕ × ℕ → Unreadable
broken_by holder fault = Breaks holder fault.0 fault.1

-- what is read of the data of a symbol, unless they break a rule
abbrev pub read_unless : {A : Type 0} → (holder : ℕ) → Option (ℕ × ℕ) → A → Reading A
read_unless holder None x = Ok x
read_unless holder (Some fault) x = Err (broken_by holder fault)

-- what is read at an offset of a symbol; where there is nothing, it breaks this rule
abbrev pub read_at : {A : Type 0} → (holder rule offset : ℕ) → Option A → Reading A
read_at holder rule offset (Some x) = Ok x
read_at holder rule offset None = Err (Breaks holder rule offset)

-- a symbol that another refers to, which is to have a definition
abbrev pub defined_read : SymbolTable → (holder : ℕ) → TargetSymbol → Reading ℕ
defined_read s holder (symbol.Key t) = if s.defined t then Ok t else Err (Lacks holder (symbol.Key t))
defined_read s holder (symbol.Missing pkg index) = Err (Lacks holder (symbol.Missing pkg index))

-- the target of a relocation, which is to have one, and a definition of it
abbrev pub symbol_read : SymbolTable → (holder offset : ℕ) → Option TargetSymbol → Reading ℕ
symbol_read s holder offset target = read_then (read_at holder no_target_rule offset target) (defined_read s holder)

-- Y6: the relocation at an offset that is read
unfoldable pub reference_read : SymbolTable → ℕ → ℕ → Reading Relocation
reference_read s k offset = read_at k no_target_rule offset (reference_at (s.relocs k) offset)

-- the target of that relocation
unfoldable pub target_read : SymbolTable → ℕ → ℕ → Reading ℕ
target_read s k offset = read_then (reference_read s k offset) (λ reloc. symbol_read s k offset reloc.target)

-- Y7: the name in the target's data at the addend of that relocation
unfoldable pub name_read : SymbolTable → ℕ → ℕ → Reading (List ℕ)
name_read s k offset =
    read_then (reference_read s k offset) (λ reloc.
    read_then (symbol_read s k offset reloc.target) (λ t.
    read_at k name_rule offset (name_at (s.content t) reloc.addend)))

-- The methods of a type.

-- the offsets of the METHODOFF relocations of a symbol, in their order
unfoldable pub methodoff_offsets : List Relocation → List ℕ
methodoff_offsets relocs = map (λ reloc. reloc.offset) (filter (λ reloc. reloc.is_methodoff) relocs)

-- the entries of a type's methods: how many there are, and where the first is
pub record MethodEntries : Type 0 where
  pub count : ℕ
  pub start : ℕ

-- Y1, Y3, Y4, Y5: the methods of type k
unfoldable pub methods_read : SymbolTable → ℕ → Reading MethodEntries
methods_read s k =
    read_unless k (methods_fault (s.content k) (methodoff_offsets (s.relocs k)))
    (record { count = method_count (s.content k); start = methods_offset (s.content k) })

-- the name of method j of type k
unfoldable pub method_name_read : SymbolTable → ℕ → ℕ → Reading (List ℕ)
method_name_read s k j =
    read_then (methods_read s k) (λ entries. name_read s k (entry_offset entries.start j + abi_method.name))

-- The methods of an interface.

-- a method of an interface: its name, and the key of its type
pub record InterfaceMethod : Type 0 where
  pub name : List ℕ
  pub of : ℕ

abbrev pub named_method : List ℕ → ℕ → InterfaceMethod
named_method name of = record { name = name; of = of }

-- of two reasons the one to be told: a broken rule before a missing definition, of two rules the one of the least number, and else
-- the first
abbrev pub first_reason : Unreadable → Unreadable → Unreadable
first_reason (Breaks h r at) (Breaks i q by) = if nat_lt q r then Breaks i q by else Breaks h r at
first_reason (Breaks h r at) (Lacks i target) = Breaks h r at
first_reason (Lacks h target) (Breaks i q by) = Breaks i q by
first_reason (Lacks h target) (Lacks i other) = Lacks h target

-- two readings, each of which is made whatever the other comes to
abbrev pub read_both : {A B C : Type 0} → (A → B → C) → Reading A → Reading B → Reading C
read_both both (Ok x) (Ok y) = Ok (both x y)
read_both both (Ok x) (Err why) = Err why
read_both both (Err why) (Ok y) = Err why
read_both both (Err why) (Err other) = Err (first_reason why other)

-- Y1, Y2, Y4: the entry of the method of interface type t at an addend
unfoldable pub imethod_entry_read : SymbolTable → ℕ → ℤ → Reading ℕ
imethod_entry_read s t addend = read_unless t (imethod_fault (s.content t) addend) (unwrap_or (offset_of addend) 0)

-- that method
unfoldable pub imethod_read : SymbolTable → ℕ → ℤ → Reading InterfaceMethod
imethod_read s t addend =
    read_then (imethod_entry_read s t addend) (λ at.
    read_both named_method (name_read s t (at + abi_imethod.name)) (target_read s t (at + abi_imethod.typ)))

-- the type of interface table k
unfoldable pub itab_type_read : SymbolTable → ℕ → Reading ℕ
itab_type_read s k = target_read s k abi_itab.typ

-- The string of a type.

-- Y1: whether the first byte of the string of type k is a star that is not the type's
unfoldable pub extra_star_read : SymbolTable → ℕ → Reading Bool
extra_star_read s k = read_unless k (header_fault (s.content k)) (has_extra_star (s.content k))

-- the string of type k
unfoldable pub type_string_read : SymbolTable → ℕ → Reading (List ℕ)
type_string_read s k =
    read_then (extra_star_read s k) (λ star.
    read_then (name_read s k abi_type.str) (λ name.
    read_at k name_rule abi_type.str (string_of star name)))
