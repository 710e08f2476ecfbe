-- Definitions that are written are read back.
use Rattle.std.proofs.Common.{◌≡◌, ◌∙◌, ℕ, ◌+◌, ◌*◌, ◌^◌, ◌<◌, List, [], ◌∷◌, ◌++◌, length, map, get_or, All, refl, sym, ap, subst, arith, append_assoc, length-append}
use Rattle.std.specs.List.{flat_map}
use Rattle.std.proofs.lemmas.List.{length-map}
use Rattle.std.proofs.lemmas.List.Concat.{flat_map-append}
use Rattle.glk_obj.specs.Blocks.{offset_of}
use Rattle.glk_obj.specs.Records.{entry_at, data_at, reloc_index, reloc_count, reloc_at, reloc_from, aux_index, aux_count, aux_at, aux_from}
use Rattle.glk_obj.specs.declared.records.RelocRec.{RelocRec}
use Rattle.glk_obj.specs.declared.records.AuxRec.{AuxRec}
use Rattle.glk_objdesc.specs.declared.desc.SymDesc.{SymDesc}
use Rattle.glk_objdesc.specs.declared.desc.DefDesc.{DefDesc}
use Rattle.glk_objdesc.specs.declared.desc.ObjDesc.{ObjDesc}
use Rattle.glk_objdesc.specs.declared.parts.Part.{Part}
use Rattle.glk_objdesc.specs.declared.parts.Part.TheVariants.{Content, Relocs, Auxes}
use Rattle.glk_objdesc.specs.Fields.{prefix_sums}
use Rattle.glk_objdesc.specs.Canonical.{definitions_of, amount, table_bytes, content_of, hash_of, relocs_bytes, auxes_bytes, reloc_bytes, aux_bytes, def_bytes}
use Rattle.glk_objdesc.specs.Sizes.{total_of}
use Rattle.glk_objdesc.specs.Described.{each_from, reloc_desc, aux_desc, relocs_of, auxes_of, def_desc}
use Rattle.glk_objdesc.specs.Typed.{IsTypedDef, IsTypedReloc, IsTypedAux}
use Rattle.glk_objdesc.proofs.Clamped.{total_append}
use Rattle.glk_objdesc.proofs.SizeLemmas.{length_prefix_sums, length_contents, length_relocs, length_auxes, length_reloc, length_aux, length_symbol}
use Rattle.glk_base.specs.BytesAt.{IsAt}
use Rattle.glk_base.proofs.BytesAt.{is_at_same, is_at_first, is_at_second, range_read}
use Rattle.glk_objdesc.proofs.Rows.{u32_read}
use Rattle.glk_objdesc.proofs.Placed.{IsText}
use Rattle.glk_objdesc.proofs.Describing.{each_same}
use Rattle.glk_objdesc.proofs.ReadBack.{symbol_read, reloc_read, aux_read, rows_back, all_first, all_rest}

-- what is in the blocks after the symbols
pub record DefBlocks (d : ObjDesc) (b : List ℕ) : Type 0 where
  pub reloc_table : IsAt b (offset_of b 11) (table_bytes Relocs d)
  pub aux_table : IsAt b (offset_of b 12) (table_bytes Auxes d)
  pub data_table : IsAt b (offset_of b 13) (table_bytes Content d)
  pub relocs : IsAt b (offset_of b 14) (flat_map relocs_bytes (definitions_of d))
  pub auxes : IsAt b (offset_of b 15) (flat_map auxes_bytes (definitions_of d))
  pub contents : IsAt b (offset_of b 16) (flat_map content_of (definitions_of d))
  pub few_relocs : total_of Relocs (definitions_of d) < 2 ^ 32
  pub few_auxes : total_of Auxes (definitions_of d) < 2 ^ 32
  pub few_bytes : total_of Content (definitions_of d) < 2 ^ 32

-- ---- tables
prefix_sums_start : (at : ℕ) (ns : List ℕ) → get_or (prefix_sums at ns) 0 0 ≡ at
unfolding prefix_sums
prefix_sums_start at [] = refl
prefix_sums_start at (n ∷ ns) = refl

prefix_sums_at : (part : Part) (front back : List DefDesc) (at : ℕ) → get_or (prefix_sums at (map (amount part) (front ++ back))) (length front) 0 ≡ at + total_of part front
unfolding prefix_sums total_of
prefix_sums_at part [] back at = prefix_sums_start at (map (amount part) back) ∙ omega arith
prefix_sums_at part (x ∷ front) back at = let h = prefix_sums_at part front back (at + amount part x) in omega (arith, h)

-- the entry of the definition that has these before it
entry_is : (part : Part) (d : ObjDesc) (b : List ℕ) (t : ℕ) (front back : List DefDesc) → IsAt b (offset_of b t) (table_bytes part d) → definitions_of d ≡ front ++ back → total_of part (definitions_of d) < 2 ^ 32
    → entry_at b t (length front) ≡ total_of part front
unfolding table_bytes
entry_is part d b t front back s split few =
    let entries = length_prefix_sums 0 (map (amount part) (definitions_of d)) in
    let same = length-map (definitions_of d) (amount part) in
    let many = ap length split in
    let sum = length-append front back in
    let all = ap (total_of part) split in
    let parts = total_append part front back in
    let value : get_or (prefix_sums 0 (map (amount part) (definitions_of d))) (length front) 0 ≡ total_of part front =
    ap (λ (xs : List DefDesc). get_or (prefix_sums 0 (map (amount part) xs)) (length front) 0) split ∙ prefix_sums_at part front back 0 ∙ omega arith in
    u32_read b (offset_of b t) (prefix_sums 0 (map (amount part) (definitions_of d))) (length front) s (omega (arith, entries, same, many, sum)) (omega (arith, value, all, parts, few))
    ∙ value

total_only : (part : Part) (x : DefDesc) → total_of part (x ∷ []) ≡ amount part x
unfolding total_of
total_only part x = omega arith

total_one : (part : Part) (front : List DefDesc) (x : DefDesc) → total_of part (front ++ x ∷ []) ≡ total_of part front + amount part x
total_one part front x = total_append part front (x ∷ []) ∙ ap (λ n. total_of part front + n) (total_only part x)

next_entry : (part : Part) (d : ObjDesc) (b : List ℕ) (t : ℕ) (front back : List DefDesc) (x : DefDesc) → IsAt b (offset_of b t) (table_bytes part d) → definitions_of d ≡ front ++ x ∷ back → total_of part (definitions_of d) < 2 ^ 32
    → entry_at b t (length front + 1) ≡ total_of part front + amount part x
next_entry part d b t front back x s split few =
    let longer : definitions_of d ≡ (front ++ x ∷ []) ++ back = split ∙ sym (append_assoc front (x ∷ []) back) in
    let size : length (front ++ x ∷ []) ≡ length front + 1 = length-append front (x ∷ []) in
    ap (λ (i : ℕ). entry_at b t i) (sym size) ∙ entry_is part d b t (front ++ x ∷ []) back s longer few ∙ total_one part front x

-- what a definition has in a join over all
part_is_at : (f : DefDesc → List ℕ) (d : ObjDesc) (b : List ℕ) (at : ℕ) (front back : List DefDesc) (x : DefDesc) → IsAt b at (flat_map f (definitions_of d)) → definitions_of d ≡ front ++ x ∷ back
    → IsAt b (at + length (flat_map f front)) (f x)
part_is_at f d b at front back x s split =
    let e : flat_map f (definitions_of d) ≡ flat_map f front ++ (f x ++ flat_map f back) = ap (λ (xs : List DefDesc). flat_map f xs) split ∙ flat_map-append f front (x ∷ back) in
    is_at_first b _ (f x) (flat_map f back) (is_at_second b at (flat_map f front) (f x ++ flat_map f back) (subst (λ (y : List ℕ). IsAt b at y) e s))

content_back : (d : ObjDesc) (b : List ℕ) (front back : List DefDesc) (x : DefDesc) → DefBlocks d b → definitions_of d ≡ front ++ x ∷ back → data_at b (length front) ≡ x.content
content_back d b front back x blocks split =
    let low = entry_is Content d b 13 front (x ∷ back) blocks.data_table split blocks.few_bytes in
    let high = next_entry Content d b 13 front back x blocks.data_table split blocks.few_bytes in
    let s = part_is_at content_of d b (offset_of b 16) front back x blocks.contents split in
    let size = length_contents front in
    range_read b (offset_of b 16 + entry_at b 13 (length front)) (offset_of b 16 + entry_at b 13 (length front + 1)) x.content
    (is_at_same b _ _ _ s (omega (arith, low, size))) (omega (arith, low, high))

relocs_back : (d : ObjDesc) (b : List ℕ) (front back : List DefDesc) (x : DefDesc) → DefBlocks d b → definitions_of d ≡ front ++ x ∷ back → All IsTypedReloc x.relocs → relocs_of b (length front) ≡ x.relocs
unfolding relocs_of relocs_bytes
relocs_back d b front back x blocks split typed =
    let i = length front in
    let low = entry_is Relocs d b 11 front (x ∷ back) blocks.reloc_table split blocks.few_relocs in
    let high = next_entry Relocs d b 11 front back x blocks.reloc_table split blocks.few_relocs in
    let s = part_is_at relocs_bytes d b (offset_of b 14) front back x blocks.relocs split in
    let size = length_relocs front in
    let start = offset_of b 14 + 23 * total_of Relocs front in
    let here : IsAt b (start + 23 * 0) (flat_map reloc_bytes x.relocs) = is_at_same b _ _ _ s (omega (arith, size)) in
    let count : reloc_count b i ≡ length x.relocs = omega (arith, low, high) in
    ap (λ (n : ℕ). each_from (λ k. reloc_desc (reloc_at b i k)) 0 n) count
    ∙ each_same (λ k. reloc_desc (reloc_at b i k)) (λ k. reloc_desc (reloc_from b (start + 23 * k))) 0 (length x.relocs)
    (λ k. let e : offset_of b 14 + 23 * (reloc_index b i + k) ≡ start + 23 * k = omega (arith, low) in ap (λ (j : ℕ). reloc_desc (reloc_from b j)) e)
    ∙ rows_back reloc_bytes 23 (λ at. reloc_desc (reloc_from b at)) IsTypedReloc b start (λ r good. length_reloc r) (λ at r good st. reloc_read b at r good st) x.relocs 0 typed here

auxes_back : (d : ObjDesc) (b : List ℕ) (front back : List DefDesc) (x : DefDesc) → DefBlocks d b → definitions_of d ≡ front ++ x ∷ back → All IsTypedAux x.auxes → auxes_of b (length front) ≡ x.auxes
unfolding auxes_of auxes_bytes
auxes_back d b front back x blocks split typed =
    let i = length front in
    let low = entry_is Auxes d b 12 front (x ∷ back) blocks.aux_table split blocks.few_auxes in
    let high = next_entry Auxes d b 12 front back x blocks.aux_table split blocks.few_auxes in
    let s = part_is_at auxes_bytes d b (offset_of b 15) front back x blocks.auxes split in
    let size = length_auxes front in
    let start = offset_of b 15 + 9 * total_of Auxes front in
    let here : IsAt b (start + 9 * 0) (flat_map aux_bytes x.auxes) = is_at_same b _ _ _ s (omega (arith, size)) in
    let count : aux_count b i ≡ length x.auxes = omega (arith, low, high) in
    ap (λ (n : ℕ). each_from (λ k. aux_desc (aux_at b i k)) 0 n) count
    ∙ each_same (λ k. aux_desc (aux_at b i k)) (λ k. aux_desc (aux_from b (start + 9 * k))) 0 (length x.auxes)
    (λ k. let e : offset_of b 15 + 9 * (aux_index b i + k) ≡ start + 9 * k = omega (arith, low) in ap (λ (j : ℕ). aux_desc (aux_from b j)) e)
    ∙ rows_back aux_bytes 9 (λ at. aux_desc (aux_from b at)) IsTypedAux b start (λ a good. length_aux a) (λ at a good st. aux_read b at a good st) x.auxes 0 typed here

-- ---- definitions
same_def : (s s' : SymDesc) (h h' c c' : List ℕ) (r r' : List RelocRec) (a a' : List AuxRec) → s ≡ s' → h ≡ h' → c ≡ c' → r ≡ r' → a ≡ a'
    → (let x : DefDesc = record { sym = s; hash = h; content = c; relocs = r; auxes = a } in x) ≡ (let y : DefDesc = record { sym = s'; hash = h'; content = c'; relocs = r'; auxes = a' } in y)
same_def s s' h h' c c' r r' a a' e1 e2 e3 e4 e5 = cc

cons_first : (x y : List ℕ) (xs ys : List (List ℕ)) → x ∷ xs ≡ y ∷ ys → x ≡ y
cons_first x y xs ys e = cc

cons_rest : (x y : List ℕ) (xs ys : List (List ℕ)) → x ∷ xs ≡ y ∷ ys → xs ≡ ys
cons_rest x y xs ys e = cc

one_back : (d : ObjDesc) (b : List ℕ) (pool : List (List ℕ)) (front back : List DefDesc) (x : DefDesc) (hash : List ℕ) (i : ℕ) → DefBlocks d b → definitions_of d ≡ front ++ x ∷ back → i ≡ length front
    → IsTypedDef x → IsText b pool x.sym.name → IsAt b (offset_of b 3 + 21 * i) (def_bytes pool x) → hash ≡ x.hash → def_desc b i hash ≡ x
one_back d b pool front back x hash i blocks split e typed text s eh =
    same_def _ _ _ _ _ _ _ _ _ _
    (symbol_read b pool (offset_of b 3 + 21 * i) x.sym typed.sym text s) eh
    (ap (λ (j : ℕ). data_at b j) e ∙ content_back d b front back x blocks split)
    (ap (λ (j : ℕ). relocs_of b j) e ∙ relocs_back d b front back x blocks split typed.relocs)
    (ap (λ (j : ℕ). auxes_of b j) e ∙ auxes_back d b front back x blocks split typed.auxes)

-- Definitions of a block, of which the first has local index m.
pub defs_back : (d : ObjDesc) (b : List ℕ) (pool : List (List ℕ)) (m offset : ℕ) (h : ℕ → List ℕ) → DefBlocks d b → offset_of b 3 + 21 * m ≡ offset
    → (xs front back : List DefDesc) (k : ℕ) → definitions_of d ≡ front ++ (xs ++ back) → m + k ≡ length front
    → All IsTypedDef xs → All (λ (def : DefDesc). IsText b pool def.sym.name) xs → IsAt b (offset + 21 * k) (flat_map (def_bytes pool) xs) → each_from h k (length xs) ≡ map hash_of xs
    → each_from (λ j. def_desc b (m + j) (h j)) k (length xs) ≡ xs
defs_back d b pool m offset h blocks ep [] front back k split e typed texts s hashes = refl
defs_back d b pool m offset h blocks ep (x ∷ xs) front back k split e typed texts s hashes =
    let size = length_symbol pool x.sym in
    let sum : 21 * (m + k) ≡ 21 * m + 21 * k = omega arith in
    let here : IsAt b (offset_of b 3 + 21 * (m + k)) (def_bytes pool x) = is_at_same b _ _ _ (is_at_first b (offset + 21 * k) (def_bytes pool x) (flat_map (def_bytes pool) xs) s) (omega (arith, ep)) in
    let later : IsAt b (offset + 21 * (k + 1)) (flat_map (def_bytes pool) xs) = is_at_same b _ _ _ (is_at_second b (offset + 21 * k) (def_bytes pool x) (flat_map (def_bytes pool) xs) s) (omega (arith, size)) in
    let one = one_back d b pool front (xs ++ back) x (h k) (m + k) blocks split e (all_first IsTypedDef x xs typed) (all_first (λ (def : DefDesc). IsText b pool def.sym.name) x xs texts) here
    (cons_first (h k) x.hash (each_from h (k + 1) (length xs)) (map hash_of xs) hashes) in
    let longer : definitions_of d ≡ (front ++ x ∷ []) ++ (xs ++ back) = split ∙ sym (append_assoc front (x ∷ []) (xs ++ back)) in
    let index_of_next : m + (k + 1) ≡ length (front ++ x ∷ []) = let n = length-append front (x ∷ []) in omega (arith, e, n) in
    let rest = defs_back d b pool m offset h blocks ep xs (front ++ x ∷ []) back (k + 1) longer index_of_next (all_rest IsTypedDef x xs typed)
    (all_rest (λ (def : DefDesc). IsText b pool def.sym.name) x xs texts) later (cons_rest (h k) x.hash (each_from h (k + 1) (length xs)) (map hash_of xs) hashes) in
    ap (λ (y : DefDesc). y ∷ each_from (λ j. def_desc b (m + j) (h j)) (k + 1) (length xs)) one ∙ ap (λ (ys : List DefDesc). x ∷ ys) rest
