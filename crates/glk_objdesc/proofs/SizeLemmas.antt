-- How long an object is.
use Rattle.std.proofs.Common.{◌≡◌, ◌∙◌, ℕ, suc, ◌+◌, ◌-◌, ◌*◌, ◌^◌, ◌<◌, ◌≤◌, List, [], ◌∷◌, ◌++◌, length, map, min, refl, sym, ap, arith, append_assoc, length-append}
use Rattle.std.specs.List.{flat_map}
use Rattle.std.proofs.lemmas.List.{append-nil, length-map}
use Rattle.byteorder.specs.Endian.{little_bytes}
use Rattle.glk_obj.specs.Blocks.{magic}
use Rattle.glk_objdesc.specs.declared.desc.SymDesc.{SymDesc}
use Rattle.glk_obj.specs.declared.records.RefFlagsRec.{RefFlagsRec}
use Rattle.glk_obj.specs.declared.records.RelocRec.{RelocRec}
use Rattle.glk_obj.specs.declared.records.AuxRec.{AuxRec}
use Rattle.glk_objdesc.specs.declared.desc.RefNameDesc.{RefNameDesc}
use Rattle.glk_objdesc.specs.declared.desc.AutolibDesc.{AutolibDesc}
use Rattle.glk_objdesc.specs.declared.desc.DefDesc.{DefDesc}
use Rattle.glk_objdesc.specs.declared.desc.ObjDesc.{ObjDesc}
use Rattle.glk_objdesc.specs.declared.parts.Part.{Part}
use Rattle.glk_objdesc.specs.declared.parts.Part.TheVariants.{Hash, Content, Relocs, Auxes}
use Rattle.glk_objdesc.specs.Fields.{u32s_bytes, prefix_sums}
use Rattle.glk_base.specs.Fields.{fields_bytes, u32}
use Rattle.glk_objdesc.specs.FirstUse.{concat_of}
use Rattle.glk_objdesc.specs.Canonical.{clamped, object_limit, pool_of, autolib_bytes, name_bytes, symbol_bytes, def_bytes, ref_flags_bytes, reloc_bytes, aux_bytes, ref_name_bytes, all_pkgs, definitions_of, hash_of, content_of, relocs_bytes, auxes_bytes, amount, table_bytes, blocks_of, offsets_of, header_of, object_bytes}
use Rattle.glk_objdesc.specs.Sizes.{IsSmall, total_of, packages_length, lengths_of, clamped_lengths, sum_of}
use Rattle.glk_objdesc.proofs.WriteLemmas.{short_names}
use Rattle.glk_objdesc.specs.Written.{with_named_blocks, with_other_blocks}

-- ---- records of one width
pub length_each : {X : Type 0} (f : X → List ℕ) (w : ℕ) (xs : List X) → ((x : X) → length (f x) ≡ w) → length (flat_map f xs) ≡ w * length xs
length_each f w [] each = grind arith
length_each f w (x ∷ xs) each =
    let all = length-append (f x) (flat_map f xs) in
    let here = each x in
    let rest = length_each f w xs each in
    let more : w * suc (length xs) ≡ w + w * length xs = grind arith in
    omega (arith, all, here, rest, more)

pub length_name : (pool : List (List ℕ)) (s : List ℕ) → length (name_bytes pool s) ≡ 8
unfolding fields_bytes
length_name pool s = refl

pub length_symbol : (pool : List (List ℕ)) (s : SymDesc) → length (symbol_bytes pool s) ≡ 21
unfolding fields_bytes
length_symbol pool s = refl

pub length_ref_flags : (r : RefFlagsRec) → length (ref_flags_bytes r) ≡ 10
unfolding fields_bytes
length_ref_flags r = refl

pub length_reloc : (r : RelocRec) → length (reloc_bytes r) ≡ 23
unfolding fields_bytes
length_reloc r = refl

pub length_aux : (a : AuxRec) → length (aux_bytes a) ≡ 9
unfolding fields_bytes
length_aux a = refl

pub length_ref_name : (pool : List (List ℕ)) (r : RefNameDesc) → length (ref_name_bytes pool r) ≡ 16
unfolding fields_bytes
length_ref_name pool r = refl

length_packages : (pool : List (List ℕ)) (xs : List AutolibDesc) → length (flat_map (autolib_bytes pool) xs) ≡ packages_length xs
unfolding packages_length
length_packages pool [] = refl
length_packages pool (a ∷ xs) =
    let all = length-append (autolib_bytes pool a) (flat_map (autolib_bytes pool) xs) in
    let here = length-append (name_bytes pool a.path) a.fingerprint in
    let name = length_name pool a.path in
    let rest = length_packages pool xs in
    omega (arith, all, here, name, rest)

-- ---- parts of definitions
length_hashes : (xs : List DefDesc) → length (flat_map hash_of xs) ≡ total_of Hash xs
unfolding total_of
length_hashes [] = refl
length_hashes (x ∷ xs) = length-append x.hash (flat_map hash_of xs) ∙ ap (λ n. length x.hash + n) (length_hashes xs)

pub length_contents : (xs : List DefDesc) → length (flat_map content_of xs) ≡ total_of Content xs
unfolding total_of
length_contents [] = refl
length_contents (x ∷ xs) = length-append x.content (flat_map content_of xs) ∙ ap (λ n. length x.content + n) (length_contents xs)

pub length_relocs : (xs : List DefDesc) → length (flat_map relocs_bytes xs) ≡ 23 * total_of Relocs xs
unfolding total_of relocs_bytes
length_relocs [] = refl
length_relocs (x ∷ xs) =
    let all = length-append (flat_map reloc_bytes x.relocs) (flat_map relocs_bytes xs) in
    let here = length_each reloc_bytes 23 x.relocs length_reloc in
    let rest = length_relocs xs in
    omega (arith, all, here, rest)

pub length_auxes : (xs : List DefDesc) → length (flat_map auxes_bytes xs) ≡ 9 * total_of Auxes xs
unfolding total_of auxes_bytes
length_auxes [] = refl
length_auxes (x ∷ xs) =
    let all = length-append (flat_map aux_bytes x.auxes) (flat_map auxes_bytes xs) in
    let here = length_each aux_bytes 9 x.auxes length_aux in
    let rest = length_auxes xs in
    omega (arith, all, here, rest)

-- ---- tables
pub length_u32s : (ns : List ℕ) → length (u32s_bytes ns) ≡ 4 * length ns
unfolding fields_bytes
length_u32s [] = refl
length_u32s (n ∷ ns) =
    let rest = length_u32s ns in
    let all = length-append (little_bytes 4 n) (u32s_bytes ns) in
    omega (arith, rest, all)

pub length_prefix_sums : (at : ℕ) (ns : List ℕ) → length (prefix_sums at ns) ≡ length ns + 1
unfolding prefix_sums
length_prefix_sums at [] = refl
length_prefix_sums at (n ∷ ns) = let h = length_prefix_sums (at + n) ns in omega (arith, h)

pub length_table : (part : Part) (d : ObjDesc) → length (table_bytes part d) ≡ 4 * (length (definitions_of d) + 1)
unfolding table_bytes
length_table part d =
    let amounts = map (amount part) (definitions_of d) in
    let all = length_u32s (prefix_sums 0 amounts) in
    let entries = length_prefix_sums 0 amounts in
    let same = length-map (definitions_of d) (amount part) in
    omega (arith, all, entries, same)

cons_same : (x y : ℕ) (xs ys : List ℕ) → x ≡ y → xs ≡ ys → x ∷ xs ≡ y ∷ ys
cons_same x y xs ys e f = cc

-- the lengths of the blocks
pub lengths_are : (d : ObjDesc) → map length (blocks_of d) ≡ lengths_of d
unfolding blocks_of
lengths_are d =
    let pool = pool_of d in
    let pkgs : length (flat_map (name_bytes pool) (all_pkgs d)) ≡ 8 * (length d.pkgs + 1) = let h = length_each (name_bytes pool) 8 (all_pkgs d) (length_name pool) in omega (arith, h) in
    cons_same _ _ _ _ (length_packages pool d.autolib)
    (cons_same _ _ _ _ pkgs
    (cons_same _ _ _ _ (length_each (name_bytes pool) 8 d.files (length_name pool))
    (cons_same _ _ _ _ (length_each (def_bytes pool) 21 d.defs (λ def. length_symbol pool def.sym))
    (cons_same _ _ _ _ (length_each (def_bytes pool) 21 d.hash64 (λ def. length_symbol pool def.sym))
    (cons_same _ _ _ _ (length_each (def_bytes pool) 21 d.hashed (λ def. length_symbol pool def.sym))
    (cons_same _ _ _ _ (length_each (def_bytes pool) 21 d.ndefs (λ def. length_symbol pool def.sym))
    (cons_same _ _ _ _ (length_each (symbol_bytes pool) 21 d.refs (length_symbol pool))
    (cons_same _ _ _ _ (length_each ref_flags_bytes 10 d.ref_flags length_ref_flags)
    (cons_same _ _ _ _ (length_hashes d.hash64)
    (cons_same _ _ _ _ (length_hashes d.hashed)
    (cons_same _ _ _ _ (length_table Relocs d)
    (cons_same _ _ _ _ (length_table Auxes d)
    (cons_same _ _ _ _ (length_table Content d)
    (cons_same _ _ _ _ (length_relocs (definitions_of d))
    (cons_same _ _ _ _ (length_auxes (definitions_of d))
    (cons_same _ _ _ _ (length_contents (definitions_of d))
    (cons_same _ _ _ _ (length_each (ref_name_bytes pool) 16 d.ref_names (length_ref_name pool))
    refl)))))))))))))))))

-- ---- the whole
pub sum_concat : (bs : List (List ℕ)) → length (concat_of bs) ≡ sum_of (map length bs)
unfolding concat_of sum_of
sum_concat [] = refl
sum_concat (b ∷ bs) = length-append b (concat_of bs) ∙ ap (λ n. length b + n) (sum_concat bs)

count_blocks : (d : ObjDesc) → length (map (length {A = ℕ}) (blocks_of d)) ≡ 18
unfolding blocks_of
count_blocks d = refl

pub length_header : (d : ObjDesc) → length d.fingerprint ≡ 8 → length (header_of d) ≡ 96
unfolding header_of fields_bytes
length_header d eight =
    let offsets = u32s_bytes (offsets_of d) in
    let flags = fields_bytes (u32 d.flags ∷ []) in
    let first = length-append magic (d.fingerprint ++ (flags ++ offsets)) in
    let second = length-append d.fingerprint (flags ++ offsets) in
    let third = length-append flags offsets in
    let words = length_u32s (offsets_of d) in
    let entries = length_prefix_sums (96 + length (concat_of (pool_of d))) (map length (blocks_of d)) in
    let blocks = count_blocks d in
    omega (arith, eight, first, second, third, words, entries, blocks)

pub length_object : (d : ObjDesc) → length d.fingerprint ≡ 8 → length (object_bytes d) ≡ 96 + length (concat_of (pool_of d)) + sum_of (lengths_of d)
unfolding object_bytes
length_object d eight =
    let first = length-append (header_of d) (concat_of (pool_of d) ++ concat_of (blocks_of d)) in
    let second = length-append (concat_of (pool_of d)) (concat_of (blocks_of d)) in
    let header = length_header d eight in
    let sum : length (concat_of (blocks_of d)) ≡ sum_of (lengths_of d) = sum_concat (blocks_of d) ∙ ap sum_of (lengths_are d) in
    omega (arith, first, second, header, sum)

-- ---- clamped
clamped_in : (m n s : ℕ) → clamped (m + (clamped n + s)) ≡ clamped (m + (n + s))
unfolding clamped
clamped_in m n s = omega arith

sum_clamped : (m : ℕ) (ns : List ℕ) → clamped (m + sum_of (map clamped ns)) ≡ clamped (m + sum_of ns)
unfolding sum_of
sum_clamped m [] = refl
sum_clamped m (n ∷ ns) =
    let e : m + (clamped n + sum_of (map clamped ns)) ≡ (m + clamped n) + sum_of (map clamped ns) = omega arith in
    let f : (m + clamped n) + sum_of ns ≡ m + (clamped n + sum_of ns) = omega arith in
    ap clamped e ∙ sum_clamped (m + clamped n) ns ∙ ap clamped f ∙ clamped_in m n (sum_of ns)

start_clamped : (strings l s : ℕ) → strings ≡ clamped l → clamped (min (96 + strings) (2 ^ 64 - 1) + s) ≡ clamped (96 + l + s)
unfolding clamped
start_clamped strings l s e = omega (arith, e)

-- what the code finds is the length of the object
pub number_is : (d : ObjDesc) (number start strings : ℕ) (lengths : List ℕ) → length d.fingerprint ≡ 8 → number ≡ clamped (start + sum_of lengths) → start ≡ min (96 + strings) (2 ^ 64 - 1)
    → strings ≡ clamped (length (concat_of (pool_of d))) → lengths ≡ clamped_lengths d → number ≡ clamped (length (object_bytes d))
number_is d number start strings lengths eight en es et el =
    en ∙ ap (λ (ls : List ℕ). clamped (start + sum_of ls)) el ∙ ap (λ n. clamped (n + sum_of (clamped_lengths d))) es
    ∙ start_clamped strings (length (concat_of (pool_of d))) (sum_of (clamped_lengths d)) et
    ∙ sum_clamped (96 + length (concat_of (pool_of d))) (lengths_of d) ∙ ap clamped (sym (length_object d eight))

pub small_clamped : (n : ℕ) → n ≤ object_limit → clamped n ≡ n
unfolding clamped
small_clamped n h = omega arith

pub exact_lengths : (ns : List ℕ) → sum_of ns ≤ object_limit → map clamped ns ≡ ns
unfolding sum_of
exact_lengths [] small = refl
exact_lengths (n ∷ ns) small = cons_same _ _ _ _ (small_clamped n (omega arith)) (exact_lengths ns (omega arith))

within : (n m : ℕ) → m ≡ clamped n → m ≤ object_limit → n ≤ object_limit
unfolding clamped
within n m e h = omega (arith, e)

relocs_within : (d : ObjDesc) → total_of Relocs (definitions_of d) ≤ sum_of (lengths_of d)
unfolding sum_of
relocs_within d = omega arith

auxes_within : (d : ObjDesc) → total_of Auxes (definitions_of d) ≤ sum_of (lengths_of d)
unfolding sum_of
auxes_within d = omega arith

content_within : (d : ObjDesc) → total_of Content (definitions_of d) ≤ sum_of (lengths_of d)
unfolding sum_of
content_within d = omega arith

pub small_is : (d : ObjDesc) (number : ℕ) → length d.fingerprint ≡ 8 → number ≡ clamped (length (object_bytes d)) → number ≤ object_limit → IsSmall d
small_is d number eight e small =
    let all = length_object d eight in
    let whole = within (length (object_bytes d)) number e small in
    let r = relocs_within d in
    let a = auxes_within d in
    let k = content_within d in
    record {
      whole = whole;
      sum = omega (arith, all, whole);
      strings = small_clamped (length (concat_of (pool_of d))) (omega (arith, all, whole));
      lengths = exact_lengths (lengths_of d) (omega (arith, all, whole)) ∙ sym (lengths_are d);
      relocs = omega (arith, all, whole, r);
      auxes = omega (arith, all, whole, a);
      content = omega (arith, all, whole, k);
      names = short_names d (omega (arith, all, whole));
    }

past_by : (n m : ℕ) → m ≡ clamped n → object_limit < m → object_limit < n
unfolding clamped
past_by n m e h = omega (arith, e)

pub past_is : (d : ObjDesc) (number : ℕ) → number ≡ clamped (length (object_bytes d)) → object_limit < number → object_limit < length (object_bytes d)
past_is d number e past = past_by (length (object_bytes d)) number e past

-- ---- the blocks after what is before them
regroup : (f a b c d e g h i j k l m n o p q r s : List ℕ)
    → f ++ a ++ b ++ c ++ d ++ e ++ g ++ h ++ i ++ j ++ k ++ l ++ m ++ n ++ o ++ p ++ q ++ r ++ s
    ≡ f ++ (a ++ (b ++ (c ++ (d ++ (e ++ (g ++ (h ++ (i ++ (j ++ (k ++ (l ++ (m ++ (n ++ (o ++ (p ++ (q ++ (r ++ (s ++ []))))))))))))))))))
regroup f a b c d e g h i j k l m n o p q r s = simp (append_assoc, append-nil)

pub blocks_behind : (d : ObjDesc) (front : List ℕ) → with_other_blocks d (with_named_blocks d front) ≡ front ++ concat_of (blocks_of d)
unfolding with_other_blocks with_named_blocks concat_of blocks_of
blocks_behind d front = regroup front _ _ _ _ _ _ _ _ _ _ _ _ _ _ _ _ _ _

pub object_is : (d : ObjDesc) (nothing header front named whole : List ℕ) → nothing ≡ [] → header ≡ nothing ++ header_of d → front ≡ header ++ concat_of (pool_of d)
    → named ≡ with_named_blocks d front → whole ≡ with_other_blocks d named → whole ≡ object_bytes d
unfolding object_bytes
object_is d nothing header front named whole e0 e1 e2 e3 e4 =
    e4 ∙ ap (λ (x : List ℕ). with_other_blocks d x) e3 ∙ blocks_behind d front
    ∙ ap (λ (x : List ℕ). x ++ concat_of (blocks_of d)) (e2 ∙ ap (λ (x : List ℕ). x ++ concat_of (pool_of d)) (e1 ∙ ap (λ (x : List ℕ). x ++ header_of d) e0))
    ∙ append_assoc (header_of d) (concat_of (pool_of d)) (concat_of (blocks_of d))

-- the sum of what the code has
pub sum_small : (d : ObjDesc) (strings : ℕ) (lengths : List ℕ) → IsSmall d → strings ≡ clamped (length (concat_of (pool_of d))) → lengths ≡ clamped_lengths d → 96 + strings + sum_of lengths ≤ object_limit
sum_small d strings lengths small es el =
    let a : strings ≡ length (concat_of (pool_of d)) = es ∙ small.strings in
    let b : sum_of lengths ≡ sum_of (lengths_of d) = ap sum_of (el ∙ small.lengths ∙ lengths_are d) in
    omega (arith, a, b, small.sum)
