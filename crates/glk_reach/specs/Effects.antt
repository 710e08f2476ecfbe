-- What a symbol does where it is kept, by each of its relocations and auxes. Weak relocations do nothing, and neither does a kind
-- without a line here: USETYPE, CALLIND, IGNORE, INITORDER. METHODOFF relocations count by threes, weak and strong alike.
use Rattle.std.specs.Prelude.{ℕ, ℤ, ◌+◌, ◌==◌, ◌&&◌, List, [], ◌∷◌, ◌++◌, map, Option, Some, None, Ok, Err, if◌then◌else◌}
use Rattle.std.specs.List.{filter_map}
use Rattle.std.specs.Option.{option_and_then, option_map}
use Rattle.glk_closure.specs.Graph.{Effect, Keeps, Links, Funcdata, Uses, Calls, Names, Method}
use Rattle.glk_closure.specs.declared.effect.Targets.{Targets}
use Rattle.glk_obj.specs.Records.{Reloc, Aux, field_start}
use Rattle.glk_obj.specs.Symbols.{funcdata}
use Rattle.glk_obj.specs.declared.kinds.RelocKind.{RelocKind}
use Rattle.glk_obj.specs.declared.kinds.RelocKind.TheVariants.{Addr, Call, PcRel, AddrOff, MethodOff, TlsLe, UseIface, UseIfaceMethod, UseNamedMethod, UseType, InitOrder, CallInd, Keep, Ignore}
use Rattle.glk_keys.specs.Programs.{Program}
use Rattle.glk_keys.specs.Relocations.{relocs_of, auxes_of, is_weak, reloc_kind, reloc_target, aux_target}
use Rattle.glk_readings.specs.Readings.{Reading, read_then, defined_read, method_name_read, imethod_read, itab_type_read}
use Rattle.glk_readings.specs.Triples.{triples_of}
use Rattle.glk_readings.specs.declared.symbols.TargetSymbol.{TargetSymbol}
use Rattle.glk_readings.specs.declared.triples.MethodTriple.{MethodTriple}
use Rattle.glk_readings.specs.declared.unreadable.Unreadable.TheVariants.{Breaks}
use Rattle.glk_reach.specs.Chosen.{of_definition, symbols_of, content_of, relocations_of, is_type, is_interface_table, target_symbol, target_key}

-- what a reading finds, if it finds something
abbrev pub found_of : {A : Type 0} → Reading A → Option A
found_of (Ok x) = Some x
found_of (Err why) = None

-- what is made of what a reading finds
abbrev pub read_map : {A B : Type 0} → (A → B) → Reading A → Reading B
read_map make reading = read_then reading (λ x. Ok (make x))

-- The relocations of symbol k.

-- K2, I2: a strong relocation of a plain kind keeps its target; between types it links them as well
abbrev pub plain_effect : Program → ℕ → ℕ → Effect
plain_effect p k t = if is_type p k && is_type p t then Links t else Keeps t

abbrev pub plain_read : Program → ℕ → TargetSymbol → Reading Effect
plain_read p k target = read_map (plain_effect p k) (defined_read (symbols_of p) k target)

-- the number of the rule that a marker of an interface breaks whose target is neither a type nor an interface table
abbrev pub marker_rule : ℕ
marker_rule = 8

-- I3: the type that an interface table is of, or that a symbol is
abbrev pub used_type_read : Program → (k offset t : ℕ) → Reading ℕ
used_type_read p k offset t =
    if is_interface_table p t then itab_type_read (symbols_of p) t
    else (if is_type p t then Ok t
    else Err (Breaks k marker_rule offset))

abbrev pub use_read : Program → (k offset : ℕ) → TargetSymbol → Reading Effect
use_read p k offset target =
    read_map Uses (read_then (defined_read (symbols_of p) k target) (used_type_read p k offset))

-- S1: the method of an interface that is called
abbrev pub call_read : Program → ℕ → ℤ → TargetSymbol → Reading Effect
call_read p k addend target =
    read_map (λ method. Calls method.name method.of)
    (read_then (defined_read (symbols_of p) k target) (λ t. imethod_read (symbols_of p) t addend))

-- G1: the name by which methods are called: the data of the target
abbrev pub named_call_read : Program → ℕ → TargetSymbol → Reading Effect
named_call_read p k target = read_map (λ t. Names (content_of p t)) (defined_read (symbols_of p) k target)

-- what a strong relocation of a kind does by its target, where the kind does something
abbrev pub target_read : Program → (k offset : ℕ) → ℤ → TargetSymbol → RelocKind → Option (Reading Effect)
target_read p k offset addend target Addr = Some (plain_read p k target)
target_read p k offset addend target Call = Some (plain_read p k target)
target_read p k offset addend target PcRel = Some (plain_read p k target)
target_read p k offset addend target AddrOff = Some (plain_read p k target)
target_read p k offset addend target MethodOff = None
target_read p k offset addend target TlsLe = Some (plain_read p k target)
target_read p k offset addend target UseIface = Some (use_read p k offset target)
target_read p k offset addend target UseIfaceMethod = Some (call_read p k addend target)
target_read p k offset addend target UseNamedMethod = Some (named_call_read p k target)
target_read p k offset addend target UseType = None
target_read p k offset addend target InitOrder = None
target_read p k offset addend target CallInd = None
target_read p k offset addend target Keep = Some (plain_read p k target)
target_read p k offset addend target Ignore = None

-- the effect of a relocation of k, whose chosen definition is row r: of a strong one with a kind and a target
unfoldable pub reloc_read : Program → (k r : ℕ) → Reloc → Option (Reading Effect)
reloc_read p k r reloc =
    if is_weak reloc then None
    else option_and_then (λ kind.
    option_and_then (λ target. target_read p k (field_start reloc) reloc.add target kind)
    (target_symbol (reloc_target p r reloc)))
    (reloc_kind p reloc)

-- The methods of a type.

-- the keys that a triple refers to
abbrev pub triple_keys : MethodTriple → Targets
triple_keys triple =
    record { first = target_key triple.first; second = target_key triple.second; third = target_key triple.third }

-- method j of type k
abbrev pub method_effect : Program → (k j : ℕ) → MethodTriple → Effect
method_effect p k j triple = Method (found_of (method_name_read (symbols_of p) k j)) (triple_keys triple)

-- its methods from number j on
abbrev pub method_effects_from : Program → (k j : ℕ) → List MethodTriple → List Effect
method_effects_from p k j [] = []
method_effects_from p k j (triple ∷ later) = method_effect p k j triple ∷ method_effects_from p k (j + 1) later

-- I4, M1: the methods of a type symbol
unfoldable pub method_effects : Program → ℕ → List Effect
method_effects p k = if is_type p k then method_effects_from p k 0 (triples_of (relocations_of p k)) else []

-- The auxes of symbol k.

-- K3: a funcdata aux with a target
unfoldable pub aux_read : Program → (k r : ℕ) → Aux → Option (Reading Effect)
aux_read p k r aux =
    if aux.kind == funcdata
    then option_map (λ target. read_map Funcdata (defined_read (symbols_of p) k target))
    (target_symbol (aux_target p r aux))
    else None

-- All of them.

-- what is read of the relocations, and of the auxes, of symbol k
unfoldable pub reloc_reads : Program → ℕ → List (Option (Reading Effect))
reloc_reads p k = of_definition p k (λ r. map (reloc_read p k r) (relocs_of p r)) []

unfoldable pub aux_reads : Program → ℕ → List (Option (Reading Effect))
aux_reads p k = of_definition p k (λ r. map (aux_read p k r) (auxes_of p r)) []

-- the effects that are found
abbrev pub found_effects : List (Option (Reading Effect)) → List Effect
found_effects reads = filter_map (option_and_then found_of) reads

-- The effects of symbol k. Their order says nothing.
unfoldable pub effects_of : Program → ℕ → List Effect
effects_of p k = found_effects (reloc_reads p k) ++ method_effects p k ++ found_effects (aux_reads p k)
