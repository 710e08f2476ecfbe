-- How long the strings of an object are together.
use Rattle.std.proofs.Common.{◌≡◌, ◌∙◌, ℕ, ◌+◌, ◌*◌, ◌≤◌, arith, List, [], ◌∷◌, ◌++◌, length, map, Bool, true, false, cond, ap, All, length-append}
use Rattle.std.specs.Prelude.{◌==◌}
use Rattle.std.proofs.lemmas.List.Elements.{All-head, All-tail}
use Rattle.glk_objdesc.specs.declared.desc.ObjDesc.{ObjDesc}
use Rattle.glk_objdesc.specs.FirstUse.{is_among, with_first, with_each, concat_of}
use Rattle.glk_objdesc.specs.Canonical.{strings_of, pool_of, autolib_path, all_pkgs, def_name, sym_name, ref_name}
use Rattle.glk_objdesc.proofs.PoolLemmas.{concat_push}

-- no name of a world is longer
abbrev pub longest_name : ℕ
longest_name = 32

abbrev pub IsShortName : List ℕ → Type 0
IsShortName s = length s ≤ longest_name

-- strings one after the other, and others after them
concat_length : (xs ys : List (List ℕ)) → length (concat_of (xs ++ ys)) ≡ length (concat_of xs) + length (concat_of ys)
unfolding concat_of
concat_length [] ys = omega arith
concat_length (x ∷ xs) ys = omega (arith, concat_length xs ys, length-append x (concat_of (xs ++ ys)), length-append x (concat_of xs))

one_of : (b t : Bool) (xs : List (List ℕ)) (q : List ℕ) (n : ℕ) → length (concat_of xs) ≤ n → length (concat_of (xs ++ q ∷ [])) ≤ n → length (concat_of (cond b xs (cond t xs (xs ++ q ∷ [])))) ≤ n
one_of true t xs q n small more = small
one_of false true xs q n small more = small
one_of false false xs q n small more = more

first_length : (xs : List (List ℕ)) (q : List ℕ) → length (concat_of (with_first xs q)) ≤ length (concat_of xs) + length q
unfolding with_first
first_length xs q =
    let more : length (concat_of (xs ++ q ∷ [])) ≡ length (concat_of xs) + length q = ap length (concat_push xs q) ∙ length-append (concat_of xs) q in
    one_of (length q == 0) (is_among xs q) xs q (length (concat_of xs) + length q) (omega arith) (omega arith)

each_length : (xs qs : List (List ℕ)) → length (concat_of (with_each xs qs)) ≤ length (concat_of xs) + length (concat_of qs)
unfolding with_each concat_of
each_length xs [] = omega arith
each_length xs (q ∷ qs) = omega (arith, each_length (with_first xs q) qs, first_length xs q, length-append q (concat_of qs))

-- the strings of first use are no longer than all
pub pool_length : (d : ObjDesc) → length (concat_of (pool_of d)) ≤ length (concat_of (strings_of d))
unfolding pool_of concat_of
pool_length d = omega (arith, each_length [] (strings_of d))

-- short strings
pub short_length : (qs : List (List ℕ)) → All IsShortName qs → length (concat_of qs) ≤ longest_name * length qs
unfolding concat_of
short_length [] short = omega arith
short_length (q ∷ qs) short = omega (arith, All-head IsShortName q qs short, short_length qs (All-tail IsShortName q qs short), length-append q (concat_of qs))

-- the strings by the parts of an object
pub strings_length : (d : ObjDesc) → length (concat_of (strings_of d)) ≡
    length (concat_of (map autolib_path d.autolib)) + length (concat_of (all_pkgs d)) + length (concat_of d.files)
    + length (concat_of (map def_name d.defs)) + length (concat_of (map def_name d.hash64)) + length (concat_of (map def_name d.hashed))
    + length (concat_of (map def_name d.ndefs)) + length (concat_of (map sym_name d.refs)) + length (concat_of (map ref_name d.ref_names))
strings_length d =
    let a = map autolib_path d.autolib in
    let b = a ++ all_pkgs d in
    let e = b ++ d.files in
    let f = e ++ map def_name d.defs in
    let g = f ++ map def_name d.hash64 in
    let h = g ++ map def_name d.hashed in
    let i = h ++ map def_name d.ndefs in
    let j = i ++ map sym_name d.refs in
    omega (
      arith,
      concat_length a (all_pkgs d),
      concat_length b d.files,
      concat_length e (map def_name d.defs),
      concat_length f (map def_name d.hash64),
      concat_length g (map def_name d.hashed),
      concat_length h (map def_name d.ndefs),
      concat_length i (map sym_name d.refs),
      concat_length j (map ref_name d.ref_names),
    )
