-- Which rows are definitions, which of them are the entry's, and whether a world is plain, can be decided.
use Rattle.std.proofs.Common.{◌≡◌, ◌<◌, ◌≤◌, ℕ, List, [], All, inl, inr}
use Rattle.std.specs.Prelude.{false}
use Rattle.std.specs.List.{Contains}
use Rattle.glk_obj.specs.Blocks.{count, hashed64def, hasheddef, nonpkgdef, nonpkgref, ref_flags}
use Rattle.glk_obj.specs.Records.{Symbol, definitions, symbol_at as symbol_of}
use Rattle.glk_obj.specs.Flags.{is_dupok, is_typelink, is_reflectmethod, is_gotype, is_used_in_iface, is_itab}
use Rattle.glk_obj.specs.Symbols.{abi_internal}
use Rattle.glk_arena.specs.World.{Package, objects_of}
use Rattle.glk_link.specs.Names.{reserved_names}
use Rattle.glk_link.specs.World.{rows, IsDefinition, local_of, object_of, symbol_at}
use Rattle.glk_link.specs.Plain.{HasPlainBlocks, HasPlainFlags, IsPlainSymbol, HasPlainSymbols, IsPlainObject, IsNamesake, IsPlain}
use Rattle.glk_link.specs.Reach.{IsEntry}
use Rattle.glk_package.proofs.Decided.{IsDecided, if_same, negated, below, at_most, is_false, same_bytes}
use Rattle.glk_link.proofs.Decided.{both, equal, some_below, all_below, all_in, contains}

pub definition : (world : List Package) (r : ℕ) → IsDecided (IsDefinition world r)
definition world r =
    let objects = objects_of world in
    if_same ((r < rows objects) × (local_of objects r < definitions (object_of objects r))) (IsDefinition world r)
    (λ h. record { row = h.0; defined = h.1 }) (λ h. (h.row, h.defined))
    (both (r < rows objects) (local_of objects r < definitions (object_of objects r)) (below r (rows objects)) (λ _. below (local_of objects r) (definitions (object_of objects r))))

pub entry_row : (world : List Package) (entry : List ℕ) (r : ℕ) → IsDecided (IsEntry world entry r)
entry_row world entry r =
    let s = symbol_at world r in
    if_same (IsDefinition world r × ((s.name ≡ entry) × (s.abi ≤ abi_internal))) (IsEntry world entry r)
    (λ h. record { definition = h.0; named = h.1.0; abi = h.1.1 }) (λ h. (h.definition, (h.named, h.abi)))
    (both (IsDefinition world r) ((s.name ≡ entry) × (s.abi ≤ abi_internal)) (definition world r)
    (λ _. both (s.name ≡ entry) (s.abi ≤ abi_internal) (same_bytes s.name entry) (λ _. at_most s.abi abi_internal)))

-- there is a definition of the entry
pub has_entry : (world : List Package) (entry : List ℕ) → IsDecided ((i : ℕ) × IsEntry world entry i)
has_entry world entry =
    if_same ((i : ℕ) × (i < rows (objects_of world)) × IsEntry world entry i) ((i : ℕ) × IsEntry world entry i)
    (λ h. (h.0, h.2)) (λ h. (h.0, h.1.definition.row, h.1))
    (some_below (λ i. IsEntry world entry i) (rows (objects_of world)) (λ i lt. entry_row world entry i))

-- Plain objects.

plain_blocks : (object : List ℕ) → IsDecided (HasPlainBlocks object)
plain_blocks object =
    let A : Type 0 = count object hashed64def ≡ 0 in
    let B : Type 0 = count object hasheddef ≡ 0 in
    let C : Type 0 = count object nonpkgdef ≡ 0 in
    let D : Type 0 = count object nonpkgref ≡ 0 in
    let E : Type 0 = count object ref_flags ≡ 0 in
    if_same (A × (B × (C × (D × E)))) (HasPlainBlocks object)
    (λ h. record { no_short_hashed = h.0; no_long_hashed = h.1.0; no_unnumbered = h.1.1.0; no_references = h.1.1.1.0; no_reference_flags = h.1.1.1.1 })
    (λ h. (h.no_short_hashed, (h.no_long_hashed, (h.no_unnumbered, (h.no_references, h.no_reference_flags)))))
    (both A (B × (C × (D × E))) (equal (count object hashed64def) 0)
    (λ _. both B (C × (D × E)) (equal (count object hasheddef) 0)
    (λ _. both C (D × E) (equal (count object nonpkgdef) 0)
    (λ _. both D E (equal (count object nonpkgref) 0) (λ _. equal (count object ref_flags) 0)))))

plain_flags : (s : Symbol) → IsDecided (HasPlainFlags s)
plain_flags s =
    let A : Type 0 = is_dupok s ≡ false in
    let B : Type 0 = is_typelink s ≡ false in
    let C : Type 0 = is_reflectmethod s ≡ false in
    let D : Type 0 = is_gotype s ≡ false in
    let E : Type 0 = is_used_in_iface s ≡ false in
    let F : Type 0 = is_itab s ≡ false in
    if_same (A × (B × (C × (D × (E × F))))) (HasPlainFlags s)
    (λ h. record { no_dupok = h.0; no_typelink = h.1.0; no_reflectmethod = h.1.1.0; no_gotype = h.1.1.1.0; no_used_in_iface = h.1.1.1.1.0; no_itab = h.1.1.1.1.1 })
    (λ h. (h.no_dupok, (h.no_typelink, (h.no_reflectmethod, (h.no_gotype, (h.no_used_in_iface, h.no_itab))))))
    (both A (B × (C × (D × (E × F)))) (is_false (is_dupok s))
    (λ _. both B (C × (D × (E × F))) (is_false (is_typelink s))
    (λ _. both C (D × (E × F)) (is_false (is_reflectmethod s))
    (λ _. both D (E × F) (is_false (is_gotype s))
    (λ _. both E F (is_false (is_used_in_iface s)) (λ _. is_false (is_itab s)))))))

plain_symbol : (s : Symbol) → IsDecided (IsPlainSymbol s)
plain_symbol s =
    let A : Type 0 = s.name ≡ [] → ⊥ in
    let B : Type 0 = Contains reserved_names s.name → ⊥ in
    let C : Type 0 = s.abi ≤ abi_internal in
    if_same (A × (B × (C × HasPlainFlags s))) (IsPlainSymbol s)
    (λ h. record { named = h.0; free = h.1.0; abi = h.1.1.0; flags = h.1.1.1 }) (λ h. (h.named, (h.free, (h.abi, h.flags))))
    (both A (B × (C × HasPlainFlags s)) (negated (s.name ≡ []) (same_bytes s.name []))
    (λ _. both B (C × HasPlainFlags s) (negated (Contains reserved_names s.name) (contains same_bytes reserved_names s.name))
    (λ _. both C (HasPlainFlags s) (at_most s.abi abi_internal) (λ _. plain_flags s))))

plain_object : (object : List ℕ) → IsDecided (IsPlainObject object)
plain_object object =
    if_same (HasPlainBlocks object × HasPlainSymbols object) (IsPlainObject object)
    (λ h. record { blocks = h.0; symbols = h.1 }) (λ h. (h.blocks, h.symbols))
    (both (HasPlainBlocks object) (HasPlainSymbols object) (plain_blocks object)
    (λ _. all_below (λ i. IsPlainSymbol (symbol_of object i)) (definitions object) (λ i lt. plain_symbol (symbol_of object i))))

-- Namesakes.

namesake : (world : List Package) (i j : ℕ) → IsDecided (IsNamesake world i j)
namesake world i j =
    let s = symbol_at world i in
    let t = symbol_at world j in
    if_same ((s.name ≡ t.name) × (s.abi ≡ t.abi)) (IsNamesake world i j)
    (λ h. record { name = h.0; abi = h.1 }) (λ h. (h.name, h.abi))
    (both (s.name ≡ t.name) (s.abi ≡ t.abi) (same_bytes s.name t.name) (λ _. equal s.abi t.abi))

-- definitions i and j are namesakes
abbrev AreTwo : List Package → ℕ → ℕ → Type 0
AreTwo world i j = IsDefinition world i × (IsDefinition world j × IsNamesake world i j)

two : (world : List Package) (i j : ℕ) → IsDecided (AreTwo world i j)
two world i j =
    both (IsDefinition world i) (IsDefinition world j × IsNamesake world i j) (definition world i)
    (λ _. both (IsDefinition world j) (IsNamesake world i j) (definition world j) (λ _. namesake world i j))

abbrev IsOnce : List Package → Type 0
IsOnce world = (i j : ℕ) → i < j → IsDefinition world i → IsDefinition world j → ¬ IsNamesake world i j

once : (world : List Package) → IsDecided (IsOnce world)
once world = by_search (some_below Twice bound (λ j lt. some_below (λ i. AreTwo world i j) j (λ i below. two world i j)))
  where
    bound : ℕ
    bound = rows (objects_of world)

    Twice : ℕ → Type 0
    Twice j = (i : ℕ) × (i < j) × AreTwo world i j

    by_search : IsDecided ((j : ℕ) × (j < bound) × Twice j) → IsDecided (IsOnce world)
    by_search (inl (j, lt, (i, below, both))) = inr (λ once. once i j below both.0 both.1.0 both.1.1)
    by_search (inr none) = inl (λ i j below a b same. none (j, b.row, (i, below, (a, (b, same)))))

pub plain : (world : List Package) → IsDecided (IsPlain world)
plain world =
    if_same (All IsPlainObject (objects_of world) × IsOnce world) (IsPlain world)
    (λ h. record { objects = h.0; once = h.1 }) (λ h. (h.objects, h.once))
    (both (All IsPlainObject (objects_of world)) (IsOnce world) (all_in IsPlainObject plain_object (objects_of world)) (λ _. once world))
