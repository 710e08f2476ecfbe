-- The parts of an object that is written.
use Rattle.std.proofs.Common.{◌≡◌, ◌∙◌, ℕ, zero, suc, ◌+◌, ◌<◌, ◌≤◌, List, [], ◌∷◌, ◌++◌, length, map, get_or, Bool, true, false, cond, refl, sym, ap, arith, append_assoc, length-append}
use Rattle.std.specs.Prelude.{◌==◌}
use Rattle.std.specs.Str.{bytes_eq}
use Rattle.std.proofs.lemmas.List.{append-nil, map-append}
use Rattle.glk_obj.specs.Blocks.{magic}
use Rattle.glk_objdesc.specs.declared.desc.ObjDesc.{ObjDesc}
use Rattle.glk_objdesc.specs.declared.desc.DefDesc.{DefDesc}
use Rattle.glk_objdesc.specs.declared.parts.Part.{Part}
use Rattle.glk_objdesc.specs.Fields.{u32s_bytes, prefix_sums}
use Rattle.glk_base.specs.Fields.{fields_bytes, u32}
use Rattle.glk_objdesc.specs.FirstUse.{is_among, with_first, with_each, concat_of}
use Rattle.glk_objdesc.specs.Canonical.{pool_of, strings_of, blocks_of, header_of, table_bytes, amount, object_limit}
use Rattle.glk_objdesc.specs.Sizes.{IsShort, HasShortNames}
use Rattle.glk_objdesc.proofs.Names.{names_of}
use Rattle.glk_objdesc.proofs.PoolLemmas.{bytes_same, concat_push}

-- ---- strings are no longer than the join of those of first use
stands_fits : (xs : List (List ℕ)) (q : List ℕ) → is_among xs q ≡ true → length q ≤ length (concat_of xs)
unfolding is_among concat_of
stands_fits [] q is = let bad : false ≡ true = is in cc
stands_fits (x ∷ xs) q is =
    fits_by (bytes_eq x q) (is_among xs q) is
    (λ same. let e : length x ≡ length q = ap length (bytes_same x q same) in omega (arith, e, length-append x (concat_of xs)))
    (λ later. omega (arith, stands_fits xs q later, length-append x (concat_of xs)))
  where
    fits_by : {P : Type 0} (b t : Bool) → cond b true t ≡ true → (b ≡ true → P) → (t ≡ true → P) → P
    fits_by true t is here later = here refl
    fits_by false t is here later = later is

first_grows_by : (e b : Bool) (xs : List (List ℕ)) (q : List ℕ) → length (concat_of xs) ≤ length (concat_of (cond e xs (cond b xs (xs ++ q ∷ []))))
first_grows_by true b xs q = omega arith
first_grows_by false true xs q = omega arith
first_grows_by false false xs q = omega (arith, ap length (concat_push xs q), length-append (concat_of xs) q)

first_fits_by : (e b : Bool) (xs : List (List ℕ)) (q : List ℕ) → (e ≡ true → length q ≡ 0) → (b ≡ true → length q ≤ length (concat_of xs))
    → length q ≤ length (concat_of (cond e xs (cond b xs (xs ++ q ∷ []))))
first_fits_by true b xs q empty there = let h = empty refl in omega arith
first_fits_by false true xs q empty there = there refl
first_fits_by false false xs q empty there = omega (arith, ap length (concat_push xs q), length-append (concat_of xs) q)

first_grows : (xs : List (List ℕ)) (q : List ℕ) → length (concat_of xs) ≤ length (concat_of (with_first xs q))
unfolding with_first
first_grows xs q = first_grows_by (length q == 0) (is_among xs q) xs q

first_fits : (xs : List (List ℕ)) (q : List ℕ) → length q ≤ length (concat_of (with_first xs q))
unfolding with_first
first_fits xs q = first_fits_by (length q == 0) (is_among xs q) xs q (λ e. grind (arith, e)) (λ there. stands_fits xs q there)

each_grows : (done qs : List (List ℕ)) → length (concat_of done) ≤ length (concat_of (with_each done qs))
unfolding with_each
each_grows done [] = omega arith
each_grows done (q ∷ qs) = omega (arith, first_grows done q, each_grows (with_first done q) qs)

pub each_fits : (done qs : List (List ℕ)) (k : ℕ) (x : List ℕ) → k < length qs → length (get_or qs k x) ≤ length (concat_of (with_each done qs))
unfolding with_each
each_fits done [] k x inside = absurd (omega arith)
each_fits done (q ∷ qs) zero x inside = omega (arith, first_fits done q, each_grows (with_first done q) qs)
each_fits done (q ∷ qs) (suc k) x inside = each_fits (with_first done q) qs k x (omega arith)

-- names are short where the join is
pub short_names : (d : ObjDesc) → length (concat_of (pool_of d)) ≤ object_limit → HasShortNames d
unfolding pool_of IsShort
short_names d small = names_of IsShort d (λ k x inside. omega (arith, small, each_fits [] (strings_of d) k x inside))

-- ---- the header
pub header_is : (d : ObjDesc) (out a b c e lengths : List ℕ) (strings : ℕ) → a ≡ out ++ magic → b ≡ a ++ d.fingerprint → c ≡ b ++ fields_bytes (u32 d.flags ∷ [])
    → e ≡ c ++ u32s_bytes (prefix_sums (96 + strings) lengths) → strings ≡ length (concat_of (pool_of d)) → lengths ≡ map length (blocks_of d) → e ≡ out ++ header_of d
unfolding header_of
header_is d out a b c e lengths strings ea eb ec ee es el =
    let offsets = u32s_bytes (prefix_sums (96 + length (concat_of (pool_of d))) (map length (blocks_of d))) in
    let flags = fields_bytes (u32 d.flags ∷ []) in
    ee ∙ ap (λ n. c ++ u32s_bytes (prefix_sums (96 + n) lengths)) es
    ∙ ap (λ (ls : List ℕ). c ++ u32s_bytes (prefix_sums (96 + length (concat_of (pool_of d))) ls)) el
    ∙ ap (λ (x : List ℕ). x ++ offsets) (ec ∙ ap (λ (x : List ℕ). x ++ flags) (eb ∙ ap (λ (x : List ℕ). x ++ d.fingerprint) ea))
    ∙ append_assoc (out ++ magic ++ d.fingerprint) flags offsets
    ∙ append_assoc (out ++ magic) d.fingerprint (flags ++ offsets)
    ∙ append_assoc out magic (d.fingerprint ++ (flags ++ offsets))

-- ---- a table
pub table_is : (part : Part) (d : ObjDesc) (out p q r s e : List ℕ) (i j k l : ℕ) (xs bs cs ds : List DefDesc)
    → xs ≡ d.defs → bs ≡ d.hash64 → cs ≡ d.hashed → ds ≡ d.ndefs
    → ((more : List ℕ) → p ++ u32s_bytes (prefix_sums i more) ≡ out ++ u32s_bytes (prefix_sums 0 (map (amount part) xs ++ more)))
    → ((more : List ℕ) → q ++ u32s_bytes (prefix_sums j more) ≡ p ++ u32s_bytes (prefix_sums i (map (amount part) bs ++ more)))
    → ((more : List ℕ) → r ++ u32s_bytes (prefix_sums k more) ≡ q ++ u32s_bytes (prefix_sums j (map (amount part) cs ++ more)))
    → ((more : List ℕ) → s ++ u32s_bytes (prefix_sums l more) ≡ r ++ u32s_bytes (prefix_sums k (map (amount part) ds ++ more)))
    → e ≡ s ++ fields_bytes (u32 l ∷ [])
    → e ≡ out ++ table_bytes part d
unfolding table_bytes prefix_sums
table_is part d out p q r s e i j k l xs bs cs ds ea eb ec ed fp fq fr fs last =
    let f = map (amount part) in
    let joins : f xs ++ (f bs ++ (f cs ++ (f ds ++ []))) ≡ f (d.defs ++ (d.hash64 ++ (d.hashed ++ d.ndefs))) =
    ap (λ (x : List ℕ). f xs ++ (f bs ++ (f cs ++ x))) (append-nil (f ds))
    ∙ ap (λ (x : List ℕ). f xs ++ (f bs ++ x)) (sym (map-append (amount part) cs ds))
    ∙ ap (λ (x : List ℕ). f xs ++ x) (sym (map-append (amount part) bs (cs ++ ds)))
    ∙ sym (map-append (amount part) xs (bs ++ (cs ++ ds)))
    ∙ ap (λ (x : List DefDesc). f (x ++ (bs ++ (cs ++ ds)))) ea
    ∙ ap (λ (x : List DefDesc). f (d.defs ++ (x ++ (cs ++ ds)))) eb
    ∙ ap (λ (x : List DefDesc). f (d.defs ++ (d.hash64 ++ (x ++ ds)))) ec
    ∙ ap (λ (x : List DefDesc). f (d.defs ++ (d.hash64 ++ (d.hashed ++ x)))) ed in
    last ∙ fs [] ∙ fr (f ds ++ []) ∙ fq (f cs ++ (f ds ++ [])) ∙ fp (f bs ++ (f cs ++ (f ds ++ [])))
    ∙ ap (λ (x : List ℕ). out ++ u32s_bytes (prefix_sums 0 x)) joins
