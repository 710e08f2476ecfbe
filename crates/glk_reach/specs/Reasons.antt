-- What a kept symbol makes read that cannot be read, in the order of its relocations, its auxes, and the string of a listed type. At
-- one relocation its own target comes first.
use Rattle.std.specs.Prelude.{ℕ, ◌+◌, ◌==◌, ◌&&◌, ◌||◌, nat_le, nat_lt, Bool, false, List, [], ◌∷◌, ◌++◌, length, get_or, Option, Some, None, Ok, Err, is_some, unwrap_or, if◌then◌else◌}
use Rattle.std.specs.List.{flat_map, position, range_with_len}
use Rattle.std.specs.Option.{option_map_or}
use Rattle.glk_closure.specs.Reach.{Fact, Kept, Iface, Sig, Named, Reflect, is_exported}
use Rattle.glk_obj.specs.Symbols.{abi_internal}
use Rattle.glk_obj.specs.declared.kinds.RelocKind.{RelocKind}
use Rattle.glk_obj.specs.declared.kinds.RelocKind.TheVariants.{Addr, Call}
use Rattle.glk_keys.specs.Keys.{find_key}
use Rattle.glk_keys.specs.Programs.{Program}
use Rattle.glk_keys.specs.Relocations.{is_weak, reloc_kind}
use Rattle.glk_keys.specs.Rows.{unreachable_method, map_init_noop}
use Rattle.glk_readings.specs.Readings.{Reading, defined_read, methods_read, method_name_read, type_string_read}
use Rattle.glk_readings.specs.Triples.{target_at, triples_of}
use Rattle.glk_readings.specs.declared.symbols.TargetSymbol.{TargetSymbol}
use Rattle.glk_readings.specs.declared.symbols.TargetSymbol.TheVariants as symbol
use Rattle.glk_readings.specs.declared.triples.MethodTriple.{MethodTriple}
use Rattle.glk_readings.specs.declared.unreadable.Unreadable.{Unreadable}
use Rattle.glk_readings.specs.declared.unreadable.Unreadable.TheVariants.{Lacks}
use Rattle.glk_reach.specs.Chosen.{key_relocs, relocations_of, symbols_of, is_type, is_listed_type, target_key}
use Rattle.glk_reach.specs.Effects.{found_of, reloc_reads, aux_reads}
use Rattle.glk_reach.specs.Graphs.{stand_in}
use Rattle.glk_reach.specs.RelocFaults.{reloc_in}
use Rattle.glk_reach.specs.RelocKinds.{is_kind}

-- why a reading finds nothing, if it finds nothing
abbrev pub reason_of : {A : Type 0} → Reading A → List Unreadable
reason_of (Ok x) = []
reason_of (Err why) = why ∷ []

abbrev pub reason_if_read : {A : Type 0} → Option (Reading A) → List Unreadable
reason_if_read None = []
reason_if_read (Some reading) = reason_of reading

-- The methods of a kept type that may be in an interface.

-- relocation i is one of this triple's
abbrev pub is_in_triple : ℕ → MethodTriple → Bool
is_in_triple i triple = nat_le triple.index i && nat_lt i (triple.index + 3)

-- the number of the triple in which relocation i is
abbrev pub triple_number : Program → (k i : ℕ) → Option ℕ
triple_number p k i = position (is_in_triple i) (triples_of (relocations_of p k))

abbrev pub no_triple : MethodTriple
no_triple = record { index = 0; first = None; second = None; third = None }

abbrev pub triple_in : Program → (k j : ℕ) → MethodTriple
triple_in p k j = get_or (triples_of (relocations_of p k)) j no_triple

-- M1: a method of this name, whose type is this key, is called
abbrev pub is_called : (Fact → Bool) → Option (List ℕ) → Option ℕ → Bool
is_called facts None of = false
is_called facts (Some name) of =
    option_map_or (λ t. facts (Sig name t)) of false
    || (facts (Named name) || (facts Reflect && is_exported name))

-- I4, M1: the target of relocation i of triple j is wanted: the method's type always, its functions where it is called
abbrev pub is_wanted : Program → (Fact → Bool) → (k i j : ℕ) → Bool
is_wanted p facts k i j =
    (i == (triple_in p k j).index)
    || is_called facts (found_of (method_name_read (symbols_of p) k j)) (target_key (triple_in p k j).first)

-- a target that is to have a definition
abbrev pub target_reason : Program → ℕ → Option TargetSymbol → List Unreadable
target_reason p k None = []
target_reason p k (Some target) = reason_of (defined_read (symbols_of p) k target)

abbrev pub method_target_reason : Program → (Fact → Bool) → (k i : ℕ) → Option ℕ → List Unreadable
method_target_reason p facts k i None = []
method_target_reason p facts k i (Some j) =
    if is_wanted p facts k i j then target_reason p k (target_at (relocations_of p k) i) else []

-- relocation i is the first METHODOFF
abbrev pub is_first_methodoff : Program → (k i : ℕ) → Bool
is_first_methodoff p k i =
    option_map_or (λ first. first == i) (position (λ reloc. reloc.is_methodoff) (relocations_of p k)) false

-- Y1, Y3, Y4, Y5: the methods count at the first METHODOFF
abbrev pub methods_reason : Program → (k i : ℕ) → List Unreadable
methods_reason p k i = if is_first_methodoff p k i then reason_of (methods_read (symbols_of p) k) else []

-- the name of a method counts at the first relocation of its triple
abbrev pub method_name_reason : Program → (k i : ℕ) → Option ℕ → List Unreadable
method_name_reason p k i None = []
method_name_reason p k i (Some j) =
    if i == (triple_in p k j).index then reason_of (method_name_read (symbols_of p) k j) else []

-- a type that is in an interface has its methods read
abbrev pub has_methods_read : Program → (Fact → Bool) → ℕ → Bool
has_methods_read p facts k = is_type p k && facts (Iface k)

abbrev pub method_reasons : Program → (Fact → Bool) → (k i : ℕ) → List Unreadable
method_reasons p facts k i =
    if has_methods_read p facts k
    then method_target_reason p facts k i (triple_number p k i)
    ++ (methods_reason p k i ++ method_name_reason p k i (triple_number p k i))
    else []

-- What stands for a target that is not kept.

-- a target that is kept
abbrev pub is_kept_target : (Fact → Bool) → TargetSymbol → Bool
is_kept_target facts (symbol.Key t) = facts (Kept t)
is_kept_target facts (symbol.Missing pkg index) = false

-- the name of the symbol that stands for the target of a weak relocation of this kind
abbrev pub stand_in_name : Option RelocKind → Option (List ℕ)
stand_in_name kind =
    if is_kind Addr kind then Some unreachable_method
    else (if is_kind Call kind then Some map_init_noop else None)

-- this symbol, which is to have a definition
abbrev pub stand_in_reason : Program → ℕ → List ℕ → List Unreadable
stand_in_reason p k name =
    if is_some (stand_in p name) then []
    else Lacks k (symbol.Key (unwrap_or (find_key p name abi_internal) 0)) ∷ []

abbrev pub weak_target_reason :
    Program → (Fact → Bool) → ℕ → Option (List ℕ) → Option TargetSymbol → List Unreadable
weak_target_reason p facts k None target = []
weak_target_reason p facts k (Some name) None = []
weak_target_reason p facts k (Some name) (Some target) =
    if is_kept_target facts target then [] else stand_in_reason p k name

-- a weak ADDR or CALL whose target is not kept
abbrev pub weak_reason : Program → (Fact → Bool) → (k i : ℕ) → List Unreadable
weak_reason p facts k i =
    if is_weak (reloc_in p k i)
    then weak_target_reason p facts k (stand_in_name (reloc_kind p (reloc_in p k i)))
    (target_at (relocations_of p k) i)
    else []

-- All of them.

-- at relocation i
unfoldable pub reasons_at : Program → (Fact → Bool) → (k i : ℕ) → List Unreadable
reasons_at p facts k i =
    reason_if_read (get_or (reloc_reads p k) i None) ++ (method_reasons p facts k i ++ weak_reason p facts k i)

-- of the string of a listed type
abbrev pub string_reason : Program → ℕ → List Unreadable
string_reason p k = if is_listed_type p k then reason_of (type_string_read (symbols_of p) k) else []

unfoldable pub reasons_of : Program → (Fact → Bool) → ℕ → List Unreadable
reasons_of p facts k =
    flat_map (reasons_at p facts k) (range_with_len 0 (length (key_relocs p k)))
    ++ (flat_map reason_if_read (aux_reads p k) ++ string_reason p k)
