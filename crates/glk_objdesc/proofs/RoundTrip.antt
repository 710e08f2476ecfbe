-- What is written is read back, block by block.
use Rattle.std.proofs.Common.{◌≡◌, ◌∙◌, ℕ, suc, ◌+◌, ◌-◌, ◌*◌, ◌/◌, ◌<◌, ◌≤◌, List, [], ◌∷◌, ◌++◌, length, map, All, refl, sym, ap, subst, arith, append_assoc, length-append}
use Rattle.std.specs.Prelude.{slice_range}
use Rattle.std.specs.List.{flat_map}
use Rattle.std.proofs.Math.Nat.{mul-div_cancel}
use Rattle.std.proofs.lemmas.List.Elements.{All-map}
use Rattle.std.proofs.lemmas.List.{length-map, append-nil, nil_from_length}
use Rattle.glk_obj.specs.Blocks.{offset_of, width_of, count, extent_of}
use Rattle.glk_obj.specs.Records.{autolib_from, autolib_at, text_at, pkg_at, file_at, symbol_from, symbol_at, ref_flags_from, ref_flags_at, hash64_at, hash_at, hash_length, ref_at}
use Rattle.glk_objdesc.specs.declared.desc.AutolibDesc.{AutolibDesc}
use Rattle.glk_objdesc.specs.declared.desc.SymDesc.{SymDesc}
use Rattle.glk_objdesc.specs.declared.desc.DefDesc.{DefDesc}
use Rattle.glk_objdesc.specs.declared.desc.RefNameDesc.{RefNameDesc}
use Rattle.glk_objdesc.specs.declared.desc.ObjDesc.{ObjDesc}
use Rattle.glk_objdesc.specs.Printable.{IsPrintable, HaveHashes}
use Rattle.glk_objdesc.specs.Typed.{IsTyped, IsTypedPackage, IsTypedSymbol, IsTypedFlags, IsTypedName, IsTypedDef}
use Rattle.glk_objdesc.specs.Canonical.{pool_of, blocks_of, object_bytes, object_limit, definitions_of, hash_of, all_pkgs, autolib_bytes, name_bytes, def_bytes, symbol_bytes, ref_flags_bytes, ref_name_bytes}
use Rattle.glk_objdesc.specs.Sizes.{IsSmall, HasNames}
use Rattle.glk_objdesc.specs.Described.{each_from, ref_desc, autolib_desc, symbol_desc, ref_flags_desc, ref_name_desc, def_desc, first_hash64, first_hashed, first_ndef, first_ref, description_of}
use Rattle.glk_objdesc.proofs.Names.{names_of}
use Rattle.glk_objdesc.proofs.SizeLemmas.{small_is, small_clamped, length_name, length_symbol, length_ref_flags, length_ref_name}
use Rattle.glk_base.specs.BytesAt.{IsAt}
use Rattle.glk_base.proofs.BytesAt.{is_at_same, is_at_second, range_read}
use Rattle.glk_objdesc.proofs.Placed.{IsText, Layout, texts_are, layout_is}
use Rattle.glk_objdesc.proofs.Describing.{each_same, same_desc}
use Rattle.glk_objdesc.proofs.ReadBack.{name_read, package_read, symbol_read, flags_read, ref_name_read, rows_back, all_first, all_rest}
use Rattle.glk_objdesc.proofs.DefsBack.{DefBlocks, defs_back}

-- ---- counts
count_is_0 : (b : List ℕ) (n : ℕ) → offset_of b 1 ≡ offset_of b 0 + 16 * n → count b 0 ≡ n
unfolding count width_of
count_is_0 b n e = omega arith

count_is_1 : (b : List ℕ) (n : ℕ) → offset_of b 2 ≡ offset_of b 1 + 8 * n → count b 1 ≡ n
unfolding count width_of
count_is_1 b n e = omega arith

count_is_2 : (b : List ℕ) (n : ℕ) → offset_of b 3 ≡ offset_of b 2 + 8 * n → count b 2 ≡ n
unfolding count width_of
count_is_2 b n e = omega arith

count_is_3 : (b : List ℕ) (n : ℕ) → offset_of b 4 ≡ offset_of b 3 + 21 * n → count b 3 ≡ n
unfolding count width_of
count_is_3 b n e = omega arith

count_is_4 : (b : List ℕ) (n : ℕ) → offset_of b 5 ≡ offset_of b 4 + 21 * n → count b 4 ≡ n
unfolding count width_of
count_is_4 b n e = omega arith

count_is_5 : (b : List ℕ) (n : ℕ) → offset_of b 6 ≡ offset_of b 5 + 21 * n → count b 5 ≡ n
unfolding count width_of
count_is_5 b n e = omega arith

count_is_6 : (b : List ℕ) (n : ℕ) → offset_of b 7 ≡ offset_of b 6 + 21 * n → count b 6 ≡ n
unfolding count width_of
count_is_6 b n e = omega arith

count_is_7 : (b : List ℕ) (n : ℕ) → offset_of b 8 ≡ offset_of b 7 + 21 * n → count b 7 ≡ n
unfolding count width_of
count_is_7 b n e = omega arith

count_is_8 : (b : List ℕ) (n : ℕ) → offset_of b 9 ≡ offset_of b 8 + 10 * n → count b 8 ≡ n
unfolding count width_of
count_is_8 b n e = omega arith

count_is_17 : (b : List ℕ) (n : ℕ) → offset_of b 18 ≡ offset_of b 17 + 16 * n → count b 17 ≡ n
unfolding count width_of
count_is_17 b n e = omega arith

-- ---- a block with records of one width
length_rows : {X : Type 0} (f : X → List ℕ) (w : ℕ) (P : X → Type 0) → ((x : X) → P x → length (f x) ≡ w) → (xs : List X) → All P xs → length (flat_map f xs) ≡ w * length xs
length_rows f w P wide [] all = grind arith
length_rows f w P wide (x ∷ xs) all =
    let sum = length-append (f x) (flat_map f xs) in
    let here = wide x (all_first P x xs all) in
    let rest = length_rows f w P wide xs (all_rest P x xs all) in
    let more : w * suc (length xs) ≡ w + w * length xs = grind arith in
    omega (arith, sum, here, rest, more)

block_back : {X : Type 0} (f : X → List ℕ) (w : ℕ) (from : ℕ → X) (P : X → Type 0) (b : List ℕ) (start next many : ℕ) (xs : List X)
    → ((x : X) → P x → length (f x) ≡ w) → ((at : ℕ) (x : X) → P x → IsAt b at (f x) → from at ≡ x) → All P xs
    → IsAt b start (flat_map f xs) → next ≡ start + length (flat_map f xs) → ((n : ℕ) → next ≡ start + w * n → many ≡ n)
    → each_from (λ j. from (start + w * j)) 0 many ≡ xs
block_back f w from P b start next many xs wide read all s e counted =
    let size = length_rows f w P wide xs all in
    let m = counted (length xs) (omega (arith, e, size)) in
    let none : w * 0 ≡ 0 = grind arith in
    ap (λ (n : ℕ). each_from (λ j. from (start + w * j)) 0 n) m
    ∙ rows_back f w from P b start wide read xs 0 all (is_at_same b _ _ _ s (omega (arith, none)))

all_both : {X : Type 0} (P Q : X → Type 0) (xs : List X) → All P xs → All Q xs → All (λ x. P x × Q x) xs
all_both P Q xs p q = λ k d inside. (p k d inside, q k d inside)

-- ---- hashes
empty_hashes : (xs : List DefDesc) (k : ℕ) → HaveHashes xs 0 → each_from (λ _. []) k (length xs) ≡ map hash_of xs
empty_hashes [] k none = refl
empty_hashes (x ∷ xs) k none =
    let here : x.hash ≡ [] = nil_from_length x.hash (all_first (λ (def : DefDesc). length def.hash ≡ 0) x xs none) in
    ap (λ (h : List ℕ). h ∷ each_from (λ _. []) (k + 1) (length xs)) (sym here)
    ∙ ap (λ (hs : List (List ℕ)). x.hash ∷ hs) (empty_hashes xs (k + 1) (all_rest (λ (def : DefDesc). length def.hash ≡ 0) x xs none))

join_hashes : (xs : List DefDesc) → flat_map (λ h. h) (map hash_of xs) ≡ flat_map hash_of xs
join_hashes [] = refl
join_hashes (x ∷ xs) = ap (λ (r : List ℕ). x.hash ++ r) (join_hashes xs)

hashes_have : (xs : List DefDesc) (n : ℕ) → HaveHashes xs n → All (λ h. length h ≡ n) (map hash_of xs)
hashes_have xs n have = All-map (λ (h : List ℕ). length h ≡ n) hash_of xs have

hashes_back : (b : List ℕ) (start n : ℕ) (xs : List DefDesc) → HaveHashes xs n → IsAt b start (flat_map hash_of xs)
    → each_from (λ k. slice_range b (start + n * k) (start + n * k + n)) 0 (length xs) ≡ map hash_of xs
hashes_back b start n xs have s =
    let none : n * 0 ≡ 0 = grind arith in
    let t : IsAt b (start + n * 0) (flat_map (λ h. h) (map hash_of xs)) = is_at_same b start (start + n * 0) (flat_map (λ h. h) (map hash_of xs)) (subst (λ (y : List ℕ). IsAt b start y) (sym (join_hashes xs)) s) (omega (arith, none)) in
    ap (λ (m : ℕ). each_from (λ k. slice_range b (start + n * k) (start + n * k + n)) 0 m) (sym (length-map xs hash_of))
    ∙ rows_back (λ (h : List ℕ). h) n (λ at. slice_range b at (at + n)) (λ h. length h ≡ n) b start (λ h e. e)
    (λ at h e st. range_read b at (at + n) h st (ap (λ m. at + m) (sym e))) (map hash_of xs) 0 (hashes_have xs n have) t

long_length : (b : List ℕ) (n : ℕ) (xs : List DefDesc) → HaveHashes xs n → count b 5 ≡ length xs → offset_of b 11 ≡ offset_of b 10 + length (flat_map hash_of xs) → 0 < length xs → hash_length b ≡ n
long_length b n xs have many e some =
    let size = length_rows hash_of n (λ (def : DefDesc). length def.hash ≡ n) (λ def h. h) xs have in
    let extent : extent_of b 10 ≡ n * length xs = omega (arith, e, size) in
    ap (λ x. x / count b 5) extent ∙ ap (λ x. n * length xs / x) many ∙ mul-div_cancel n some

pub long_hashes : (b : List ℕ) (n : ℕ) (xs : List DefDesc) → HaveHashes xs n → count b 5 ≡ length xs → IsAt b (offset_of b 10) (flat_map hash_of xs) → offset_of b 11 ≡ offset_of b 10 + length (flat_map hash_of xs)
    → each_from (hash_at b) 0 (length xs) ≡ map hash_of xs
long_hashes b n [] have many s e = refl
long_hashes b n (x ∷ xs) have many s e =
    let is = long_length b n (x ∷ xs) have many e (omega arith) in
    ap (λ (m : ℕ). each_from (λ k. slice_range b (offset_of b 10 + m * k) (offset_of b 10 + m * k + m)) 0 (length (x ∷ xs))) is ∙ hashes_back b (offset_of b 10) n (x ∷ xs) have s

-- ---- the blocks as lists of records
record Blocks (d : ObjDesc) (b : List ℕ) : Type 0 where
  pub stands_0 : IsAt b (offset_of b 0) (flat_map (autolib_bytes (pool_of d)) d.autolib)
  pub next_0 : offset_of b 1 ≡ offset_of b 0 + length (flat_map (autolib_bytes (pool_of d)) d.autolib)
  pub stands_1 : IsAt b (offset_of b 1) (flat_map (name_bytes (pool_of d)) (all_pkgs d))
  pub next_1 : offset_of b 2 ≡ offset_of b 1 + length (flat_map (name_bytes (pool_of d)) (all_pkgs d))
  pub stands_2 : IsAt b (offset_of b 2) (flat_map (name_bytes (pool_of d)) d.files)
  pub next_2 : offset_of b 3 ≡ offset_of b 2 + length (flat_map (name_bytes (pool_of d)) d.files)
  pub stands_3 : IsAt b (offset_of b 3) (flat_map (def_bytes (pool_of d)) d.defs)
  pub next_3 : offset_of b 4 ≡ offset_of b 3 + length (flat_map (def_bytes (pool_of d)) d.defs)
  pub stands_4 : IsAt b (offset_of b 4) (flat_map (def_bytes (pool_of d)) d.hash64)
  pub next_4 : offset_of b 5 ≡ offset_of b 4 + length (flat_map (def_bytes (pool_of d)) d.hash64)
  pub stands_5 : IsAt b (offset_of b 5) (flat_map (def_bytes (pool_of d)) d.hashed)
  pub next_5 : offset_of b 6 ≡ offset_of b 5 + length (flat_map (def_bytes (pool_of d)) d.hashed)
  pub stands_6 : IsAt b (offset_of b 6) (flat_map (def_bytes (pool_of d)) d.ndefs)
  pub next_6 : offset_of b 7 ≡ offset_of b 6 + length (flat_map (def_bytes (pool_of d)) d.ndefs)
  pub stands_7 : IsAt b (offset_of b 7) (flat_map (symbol_bytes (pool_of d)) d.refs)
  pub next_7 : offset_of b 8 ≡ offset_of b 7 + length (flat_map (symbol_bytes (pool_of d)) d.refs)
  pub stands_8 : IsAt b (offset_of b 8) (flat_map ref_flags_bytes d.ref_flags)
  pub next_8 : offset_of b 9 ≡ offset_of b 8 + length (flat_map ref_flags_bytes d.ref_flags)
  pub stands_9 : IsAt b (offset_of b 9) (flat_map hash_of d.hash64)
  pub stands_10 : IsAt b (offset_of b 10) (flat_map hash_of d.hashed)
  pub next_10 : offset_of b 11 ≡ offset_of b 10 + length (flat_map hash_of d.hashed)
  pub stands_17 : IsAt b (offset_of b 17) (flat_map (ref_name_bytes (pool_of d)) d.ref_names)
  pub next_17 : offset_of b 18 ≡ offset_of b 17 + length (flat_map (ref_name_bytes (pool_of d)) d.ref_names)
  pub defs : DefBlocks d b

blocks_are : (d : ObjDesc) (b : List ℕ) → Layout d b → IsSmall d → Blocks d b
unfolding blocks_of
blocks_are d b l small = record {
  stands_0 = l.is_among 0 (omega arith);
  next_0 = l.next 0 (omega arith);
  stands_1 = l.is_among 1 (omega arith);
  next_1 = l.next 1 (omega arith);
  stands_2 = l.is_among 2 (omega arith);
  next_2 = l.next 2 (omega arith);
  stands_3 = l.is_among 3 (omega arith);
  next_3 = l.next 3 (omega arith);
  stands_4 = l.is_among 4 (omega arith);
  next_4 = l.next 4 (omega arith);
  stands_5 = l.is_among 5 (omega arith);
  next_5 = l.next 5 (omega arith);
  stands_6 = l.is_among 6 (omega arith);
  next_6 = l.next 6 (omega arith);
  stands_7 = l.is_among 7 (omega arith);
  next_7 = l.next 7 (omega arith);
  stands_8 = l.is_among 8 (omega arith);
  next_8 = l.next 8 (omega arith);
  stands_9 = l.is_among 9 (omega arith);
  stands_10 = l.is_among 10 (omega arith);
  next_10 = l.next 10 (omega arith);
  stands_17 = l.is_among 17 (omega arith);
  next_17 = l.next 17 (omega arith);
  defs = record {
    reloc_table = l.is_among 11 (omega arith);
    aux_table = l.is_among 12 (omega arith);
    data_table = l.is_among 13 (omega arith);
    relocs = l.is_among 14 (omega arith);
    auxes = l.is_among 15 (omega arith);
    contents = l.is_among 16 (omega arith);
    few_relocs = omega (arith, small.relocs);
    few_auxes = omega (arith, small.auxes);
    few_bytes = omega (arith, small.content);
  };
}

-- how many symbols the blocks have
record Counts (d : ObjDesc) (b : List ℕ) : Type 0 where
  pub defs : count b 3 ≡ length d.defs
  pub hash64 : count b 4 ≡ length d.hash64
  pub hashed : count b 5 ≡ length d.hashed
  pub ndefs : count b 6 ≡ length d.ndefs
  pub at_4 : offset_of b 3 + 21 * length d.defs ≡ offset_of b 4
  pub at_5 : offset_of b 3 + 21 * (length d.defs + length d.hash64) ≡ offset_of b 5
  pub at_6 : offset_of b 3 + 21 * (length d.defs + length d.hash64 + length d.hashed) ≡ offset_of b 6
  pub at_7 : offset_of b 3 + 21 * (length d.defs + length d.hash64 + length d.hashed + length d.ndefs) ≡ offset_of b 7

length_defs : (pool : List (List ℕ)) (xs : List DefDesc) → length (flat_map (def_bytes pool) xs) ≡ 21 * length xs
length_defs pool [] = refl
length_defs pool (x ∷ xs) =
    let sum = length-append (def_bytes pool x) (flat_map (def_bytes pool) xs) in
    let here = length_symbol pool x.sym in
    let rest = length_defs pool xs in
    omega (arith, sum, here, rest)

counts_are : (d : ObjDesc) (b : List ℕ) → Blocks d b → Counts d b
counts_are d b s =
    let pool = pool_of d in
    let n3 = length_defs pool d.defs in
    let n4 = length_defs pool d.hash64 in
    let n5 = length_defs pool d.hashed in
    let n6 = length_defs pool d.ndefs in
    let o3 = s.next_3 in
    let o4 = s.next_4 in
    let o5 = s.next_5 in
    let o6 = s.next_6 in
    record {
      defs = count_is_3 b (length d.defs) (omega (arith, o3, n3));
      hash64 = count_is_4 b (length d.hash64) (omega (arith, o4, n4));
      hashed = count_is_5 b (length d.hashed) (omega (arith, o5, n5));
      ndefs = count_is_6 b (length d.ndefs) (omega (arith, o6, n6));
      at_4 = omega (arith, o3, n3);
      at_5 = omega (arith, o3, n3, o4, n4);
      at_6 = omega (arith, o3, n3, o4, n4, o5, n5);
      at_7 = omega (arith, o3, n3, o4, n4, o5, n5, o6, n6);
    }

-- ---- each list of a description
autolib_back : (d : ObjDesc) (b : List ℕ) → Blocks d b → IsTyped d → HasNames (IsText b (pool_of d)) d → each_from (λ k. autolib_desc (autolib_at b k)) 0 (count b 0) ≡ d.autolib
autolib_back d b s typed names =
    let pool = pool_of d in
    let P : AutolibDesc → Type 0 = λ a. IsTypedPackage a × IsText b pool a.path in
    block_back (autolib_bytes pool) 16 (λ at. autolib_desc (autolib_from b at)) P b (offset_of b 0) (offset_of b 1) (count b 0) d.autolib
    (λ a good. let e = length-append (name_bytes pool a.path) a.fingerprint in let f = length_name pool a.path in let g = good.0.fingerprint in omega (arith, e, f, g))
    (λ at a good st. package_read b pool at a good.0 good.1 st)
    (all_both IsTypedPackage (λ (a : AutolibDesc). IsText b pool a.path) d.autolib typed.autolib names.autolib) s.stands_0 s.next_0 (λ n e. count_is_0 b n e)

pkgs_back : (d : ObjDesc) (b : List ℕ) → Blocks d b → HasNames (IsText b (pool_of d)) d → each_from (pkg_at b) 1 (count b 1 - 1) ≡ d.pkgs
pkgs_back d b s names =
    let pool = pool_of d in
    let all = length_rows (name_bytes pool) 8 (λ (q : List ℕ). Unit {0}) (λ q u. length_name pool q) (all_pkgs d) (λ k x inside. tt) in
    let next = s.next_1 in
    let many = count_is_1 b (length (all_pkgs d)) (omega (arith, next, all)) in
    let left : count b 1 - 1 ≡ length d.pkgs = omega (arith, many) in
    let size = length_name pool [] in
    let st : IsAt b (offset_of b 1 + 8 * 1) (flat_map (name_bytes pool) d.pkgs) = is_at_same b _ _ _ (is_at_second b (offset_of b 1) (name_bytes pool []) (flat_map (name_bytes pool) d.pkgs) s.stands_1) (omega (arith, size)) in
    ap (λ (n : ℕ). each_from (pkg_at b) 1 n) left
    ∙ rows_back (name_bytes pool) 8 (λ at. text_at b at) (IsText b pool) b (offset_of b 1) (λ q t. length_name pool q) (λ at q t h. name_read b pool at q t h) d.pkgs 1 names.pkgs st

files_back : (d : ObjDesc) (b : List ℕ) → Blocks d b → HasNames (IsText b (pool_of d)) d → each_from (file_at b) 0 (count b 2) ≡ d.files
files_back d b s names =
    let pool = pool_of d in
    block_back (name_bytes pool) 8 (λ at. text_at b at) (IsText b pool) b (offset_of b 2) (offset_of b 3) (count b 2) d.files
    (λ q t. length_name pool q) (λ at q t h. name_read b pool at q t h) names.files s.stands_2 s.next_2 (λ n e. count_is_2 b n e)

refs_back : (d : ObjDesc) (b : List ℕ) → Blocks d b → Counts d b → IsTyped d → HasNames (IsText b (pool_of d)) d → each_from (λ k. symbol_desc (symbol_at b (first_ref b + k))) 0 (count b 7) ≡ d.refs
refs_back d b s c typed names =
    let pool = pool_of d in
    let P : SymDesc → Type 0 = λ x. IsTypedSymbol x × IsText b pool x.name in
    let c3 = c.defs in
    let c4 = c.hash64 in
    let c5 = c.hashed in
    let c6 = c.ndefs in
    let o = c.at_7 in
    each_same (λ k. symbol_desc (symbol_at b (first_ref b + k))) (λ k. symbol_desc (symbol_from b (offset_of b 7 + 21 * k))) 0 (count b 7)
    (λ k. let e : offset_of b 3 + 21 * (first_ref b + k) ≡ offset_of b 7 + 21 * k = omega (arith, c3, c4, c5, c6, o) in ap (λ (j : ℕ). symbol_desc (symbol_from b j)) e)
    ∙ block_back (symbol_bytes pool) 21 (λ at. symbol_desc (symbol_from b at)) P b (offset_of b 7) (offset_of b 8) (count b 7) d.refs
    (λ x good. length_symbol pool x) (λ at x good h. symbol_read b pool at x good.0 good.1 h)
    (all_both IsTypedSymbol (λ (x : SymDesc). IsText b pool x.name) d.refs typed.refs names.refs) s.stands_7 s.next_7 (λ n e. count_is_7 b n e)

ref_flags_back : (d : ObjDesc) (b : List ℕ) → Blocks d b → IsTyped d → each_from (λ k. ref_flags_desc (ref_flags_at b k)) 0 (count b 8) ≡ d.ref_flags
ref_flags_back d b s typed =
    block_back ref_flags_bytes 10 (λ at. ref_flags_desc (ref_flags_from b at)) IsTypedFlags b (offset_of b 8) (offset_of b 9) (count b 8) d.ref_flags
    (λ r good. length_ref_flags r) (λ at r good h. flags_read b at r good h) typed.ref_flags s.stands_8 s.next_8 (λ n e. count_is_8 b n e)

ref_names_back : (d : ObjDesc) (b : List ℕ) → Blocks d b → IsTyped d → HasNames (IsText b (pool_of d)) d → each_from (ref_name_desc b) 0 (count b 17) ≡ d.ref_names
unfolding ref_name_desc
ref_names_back d b s typed names =
    let pool = pool_of d in
    let P : RefNameDesc → Type 0 = λ r. IsTypedName r × IsText b pool r.name in
    let from : ℕ → RefNameDesc = λ at. record { target = ref_desc (ref_at b at); name = text_at b (at + 8) } in
    block_back (ref_name_bytes pool) 16 from P b (offset_of b 17) (offset_of b 18) (count b 17) d.ref_names
    (λ r good. length_ref_name pool r) (λ at r good h. ref_name_read b pool at r good.0 good.1 h)
    (all_both IsTypedName (λ (r : RefNameDesc). IsText b pool r.name) d.ref_names typed.ref_names names.ref_names) s.stands_17 s.next_17 (λ n e. count_is_17 b n e)

-- definitions of a block
group_back : (d : ObjDesc) (b : List ℕ) (m first offset many : ℕ) (h : ℕ → List ℕ) → DefBlocks d b → offset_of b 3 + 21 * m ≡ offset → first ≡ m
    → (xs front back : List DefDesc) → definitions_of d ≡ front ++ (xs ++ back) → m ≡ length front → many ≡ length xs
    → All IsTypedDef xs → All (λ (def : DefDesc). IsText b (pool_of d) def.sym.name) xs → IsAt b offset (flat_map (def_bytes (pool_of d)) xs) → each_from h 0 (length xs) ≡ map hash_of xs
    → each_from (λ j. def_desc b (first + j) (h j)) 0 many ≡ xs
group_back d b m first offset many h blocks ep is xs front back split e counted typed texts s hashes =
    ap (λ (n : ℕ). each_from (λ j. def_desc b (first + j) (h j)) 0 n) counted
    ∙ ap (λ (f : ℕ). each_from (λ j. def_desc b (f + j) (h j)) 0 (length xs)) is
    ∙ defs_back d b (pool_of d) m offset h blocks ep xs front back 0 split (omega arith) typed texts (is_at_same b _ _ _ s (omega arith)) hashes

plain_first : (b : List ℕ) (n : ℕ) → each_from (λ i. def_desc b i []) 0 n ≡ each_from (λ j. def_desc b (0 + j) []) 0 n
plain_first b n = each_same (λ i. def_desc b i []) (λ j. def_desc b (0 + j) []) 0 n (λ k. let z : k ≡ 0 + k = omega arith in ap (λ (j : ℕ). def_desc b j []) z)

pub round_trip : (d : ObjDesc) → IsPrintable d → IsTyped d → length (object_bytes d) ≤ object_limit → description_of (object_bytes d) ≡ d
unfolding description_of
round_trip d printable typed limit =
    let b = object_bytes d in
    let small = small_is d (length b) typed.fingerprint (sym (small_clamped (length b) limit)) limit in
    let l = layout_is d typed limit in
    let s = blocks_are d b l small in
    let c = counts_are d b s in
    let sum = small.sum in
    let names = names_of (IsText b (pool_of d)) d (texts_are d b l.strings (omega (arith, sum))) in
    let c3 = c.defs in
    let c4 = c.hash64 in
    let c5 = c.hashed in
    let c6 = c.ndefs in
    let ends : d.ndefs ++ [] ≡ d.ndefs = append-nil d.ndefs in
    let u64 = printable.long_hashes in
    same_desc _ _ _ _ _ _ _ _ _ _ _ _ _ _ _ _ _ _ _ _ _ _ _ _
    l.flags l.fingerprint (autolib_back d b s typed names) (pkgs_back d b s names) (files_back d b s names)
    (plain_first b (count b 3) ∙ group_back d b 0 0 (offset_of b 3) (count b 3) (λ _. []) s.defs (omega arith) refl d.defs [] (d.hash64 ++ (d.hashed ++ d.ndefs)) refl refl c3
    typed.defs names.defs s.stands_3 (empty_hashes d.defs 0 printable.def_hashes))
    (group_back d b (length d.defs) (first_hash64 b) (offset_of b 4) (count b 4) (hash64_at b) s.defs c.at_4 c3 d.hash64 d.defs (d.hashed ++ d.ndefs) refl refl c4
    typed.hash64 names.hash64 s.stands_4 (hashes_back b (offset_of b 9) 8 d.hash64 printable.short_hashes s.stands_9))
    (group_back d b (length d.defs + length d.hash64) (first_hashed b) (offset_of b 5) (count b 5) (hash_at b) s.defs c.at_5 (omega (arith, c3, c4)) d.hashed (d.defs ++ d.hash64) d.ndefs
    (sym (append_assoc d.defs d.hash64 (d.hashed ++ d.ndefs))) (sym (length-append d.defs d.hash64)) c5
    typed.hashed names.hashed s.stands_5 (long_hashes b u64.0 d.hashed u64.3 c5 s.stands_10 s.next_10))
    (group_back d b (length d.defs + length d.hash64 + length d.hashed) (first_ndef b) (offset_of b 6) (count b 6) (λ _. []) s.defs c.at_6 (omega (arith, c3, c4, c5)) d.ndefs ((d.defs ++ d.hash64) ++ d.hashed) []
    (sym (append_assoc d.defs d.hash64 (d.hashed ++ d.ndefs)) ∙ sym (append_assoc (d.defs ++ d.hash64) d.hashed d.ndefs) ∙ ap (λ (x : List DefDesc). ((d.defs ++ d.hash64) ++ d.hashed) ++ x) (sym ends))
    (let e = length-append (d.defs ++ d.hash64) d.hashed in let f = length-append d.defs d.hash64 in omega (arith, e, f)) c6
    typed.ndefs names.ndefs s.stands_6 (empty_hashes d.ndefs 0 printable.ndef_hashes))
    (refs_back d b s c typed names) (ref_flags_back d b s typed) (ref_names_back d b s typed names)
