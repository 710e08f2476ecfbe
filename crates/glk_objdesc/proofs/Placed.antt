-- Where the parts of canonical bytes are.
use Rattle.std.proofs.Common.{◌≡◌, ◌∙◌, ℕ, zero, suc, ◌+◌, ◌^◌, ◌<◌, ◌≤◌, List, [], ◌∷◌, ◌++◌, length, drop, map, get_or, Bool, true, false, cond, All, refl, sym, ap, subst, arith, length-append}
use Rattle.std.specs.Prelude.{◌==◌, slice_range}
use Rattle.std.specs.Str.{bytes_eq}
use Rattle.std.proofs.lemmas.List.{append-nil, nil_from_length, drop-drop, drop_at}
use Rattle.glk_base.specs.Bytes.{number_at}
use Rattle.glk_obj.specs.Blocks.{magic, offset_of}
use Rattle.glk_objdesc.specs.declared.desc.ObjDesc.{ObjDesc}
use Rattle.glk_objdesc.specs.Fields.{u32s_bytes, prefix_sums}
use Rattle.glk_base.specs.Fields.{fields_bytes, u32}
use Rattle.glk_objdesc.specs.FirstUse.{is_among, with_first, with_each, concat_of, offset_in}
use Rattle.glk_objdesc.specs.Canonical.{pool_of, strings_of, text_offset, blocks_of, offsets_of, header_of, object_bytes, object_limit}
use Rattle.glk_objdesc.specs.Sizes.{sum_of, lengths_of}
use Rattle.glk_objdesc.specs.Typed.{IsTyped}
use Rattle.glk_objdesc.proofs.PoolLemmas.{bytes_same, bytes_itself, stands_push, offset_le}
use Rattle.glk_objdesc.proofs.WriteLemmas.{each_fits}
use Rattle.glk_objdesc.proofs.SizeLemmas.{length_prefix_sums, length_u32s, lengths_are, length_header, length_object}
use Rattle.glk_base.specs.BytesAt.{IsAt}
use Rattle.glk_base.proofs.BytesAt.{is_at_part, is_at_same, is_at_first, is_at_second, field_read, range_read}
use Rattle.glk_objdesc.proofs.Rows.{u32_read, block_is_at, next_is}

-- ---- strings
stands_behind : (front r : List ℕ) (at : ℕ) (x : List ℕ) → IsAt r at x → IsAt (front ++ r) (length front + at) x
stands_behind front r at x s = record {
  inside = omega (arith, s.inside, length-append front r);
  rest = s.rest;
  is = sym (drop-drop at (length front) (front ++ r)) ∙ ap (λ t. drop at t) (drop_at front r (length front) refl) ∙ s.is;
}

offset_by : (r q : List ℕ) (b t : Bool) (l n : ℕ) → cond b true t ≡ true → (b ≡ true → IsAt r 0 q) → (t ≡ true → IsAt r (l + n) q) → IsAt r (cond b 0 (l + n)) q
offset_by r q true t l n is here later = here refl
offset_by r q false t l n is here later = later is

pool_stands : (xs : List (List ℕ)) (q : List ℕ) → is_among xs q ≡ true → IsAt (concat_of xs) (offset_in xs q) q
unfolding is_among concat_of offset_in
pool_stands [] q is = absurd (let bad : false ≡ true = is in cc)
pool_stands (x ∷ xs) q is =
    offset_by (x ++ concat_of xs) q (bytes_eq x q) (is_among xs q) (length x) (offset_in xs q) is
    (λ same. record { inside = omega arith; rest = concat_of xs; is = ap (λ (y : List ℕ). y ++ concat_of xs) (bytes_same x q same) })
    (λ later. stands_behind x (concat_of xs) (offset_in xs q) q (pool_stands xs q later))

first_keeps_by : (e b : Bool) (xs : List (List ℕ)) (q p : List ℕ) → is_among xs p ≡ true → is_among (cond e xs (cond b xs (xs ++ q ∷ []))) p ≡ true
first_keeps_by true b xs q p is = is
first_keeps_by false true xs q p is = is
first_keeps_by false false xs q p is = stands_push xs q p ∙ ap (λ t. cond t true (bytes_eq q p)) is

first_has_by : (e b : Bool) (xs : List (List ℕ)) (q : List ℕ) → e ≡ false → is_among xs q ≡ b → is_among (cond e xs (cond b xs (xs ++ q ∷ []))) q ≡ true
first_has_by true b xs q full is = let bad : true ≡ false = full in cc
first_has_by false true xs q full is = is
first_has_by false false xs q full is = stands_push xs q q ∙ ap (λ t. cond t true (bytes_eq q q)) is ∙ bytes_itself q

first_keeps : (xs : List (List ℕ)) (q p : List ℕ) → is_among xs p ≡ true → is_among (with_first xs q) p ≡ true
unfolding with_first
first_keeps xs q p is = first_keeps_by (length q == 0) (is_among xs q) xs q p is

first_has : (xs : List (List ℕ)) (q : List ℕ) → (length q == 0) ≡ false → is_among (with_first xs q) q ≡ true
unfolding with_first
first_has xs q full = first_has_by (length q == 0) (is_among xs q) xs q full refl

each_keeps : (done qs : List (List ℕ)) (p : List ℕ) → is_among done p ≡ true → is_among (with_each done qs) p ≡ true
unfolding with_each
each_keeps done [] p is = is
each_keeps done (q ∷ qs) p is = each_keeps (with_first done q) qs p (first_keeps done q p is)

each_has : (done qs : List (List ℕ)) (k : ℕ) (x : List ℕ) → k < length qs → (length (get_or qs k x) == 0) ≡ false → is_among (with_each done qs) (get_or qs k x) ≡ true
unfolding with_each
each_has done [] k x inside full = absurd (omega arith)
each_has done (q ∷ qs) zero x inside full = each_keeps (with_first done q) qs q (first_has done q full)
each_has done (q ∷ qs) (suc k) x inside full = each_has (with_first done q) qs k x (omega arith) full

-- a string that is named by its length and its offset is read
pub record IsText (b : List ℕ) (pool : List (List ℕ)) (q : List ℕ) : Type 0 where
  pub short : length q < 2 ^ 32
  pub offset : text_offset pool q < 2 ^ 32
  pub bytes : slice_range b (text_offset pool q) (text_offset pool q + length q) ≡ q

text_by : (b : List ℕ) (pool : List (List ℕ)) (q : List ℕ) (e : Bool) → (length q == 0) ≡ e → IsAt b 96 (concat_of pool) → length (concat_of pool) ≤ object_limit → length q ≤ length (concat_of pool)
    → (e ≡ false → is_among pool q ≡ true) → IsText b pool q
unfolding text_offset
text_by b pool q true e s small fits there =
    let none : q ≡ [] = nil_from_length q (let h = e in grind (arith, h)) in
    let is : text_offset pool q ≡ 0 = rw e refl in
    record {
      short = omega arith;
      offset = rw is (omega arith);
      bytes = subst (λ (x : List ℕ). slice_range b (text_offset pool x) (text_offset pool x + length x) ≡ x) (sym none) refl;
    }
text_by b pool q false e s small fits there =
    let is : text_offset pool q ≡ 96 + offset_in pool q = rw e refl in
    let low = offset_le pool q in
    let t : IsAt b (96 + offset_in pool q) q = is_at_part b 96 (offset_in pool q) (concat_of pool) q s (pool_stands pool q (there refl)) in
    record {
      short = omega arith;
      offset = rw is (omega (arith, low));
      bytes = range_read b (text_offset pool q) (text_offset pool q + length q) q (is_at_same b _ _ q t (sym is)) refl;
    }

pub texts_are : (d : ObjDesc) (b : List ℕ) → IsAt b 96 (concat_of (pool_of d)) → length (concat_of (pool_of d)) ≤ object_limit → All (IsText b (pool_of d)) (strings_of d)
unfolding pool_of
texts_are d b s small = λ k x inside.
    text_by b (with_each [] (strings_of d)) (get_or (strings_of d) k x) (length (get_or (strings_of d) k x) == 0) refl s small (each_fits [] (strings_of d) k x inside)
    (λ full. each_has [] (strings_of d) k x inside full)

-- ---- the header
prefix_sums_le : (at : ℕ) (ns : List ℕ) (k : ℕ) → get_or (prefix_sums at ns) k 0 ≤ at + sum_of ns
unfolding prefix_sums sum_of
prefix_sums_le at [] zero = omega arith
prefix_sums_le at [] (suc k) = omega arith
prefix_sums_le at (n ∷ ns) zero = omega arith
prefix_sums_le at (n ∷ ns) (suc k) = let h = prefix_sums_le (at + n) ns k in omega (arith, h)

pub record Layout (d : ObjDesc) (b : List ℕ) : Type 0 where
  pub flags : number_at 4 b 16 ≡ d.flags
  pub fingerprint : slice_range b 8 16 ≡ d.fingerprint
  pub strings : IsAt b 96 (concat_of (pool_of d))
  pub is_among : (k : ℕ) → k < 18 → IsAt b (offset_of b k) (get_or (blocks_of d) k [])
  pub next : (k : ℕ) → k < 18 → offset_of b (k + 1) ≡ offset_of b k + length (get_or (blocks_of d) k [])

count_blocks : (d : ObjDesc) → length (blocks_of d) ≡ 18
unfolding blocks_of
count_blocks d = refl

count_lengths : (d : ObjDesc) → length (map (length {A = ℕ}) (blocks_of d)) ≡ 18
unfolding blocks_of
count_lengths d = refl

offset_is : (d : ObjDesc) (b : List ℕ) → IsAt b 20 (u32s_bytes (offsets_of d)) → 96 + length (concat_of (pool_of d)) + sum_of (lengths_of d) ≤ object_limit
    → (k : ℕ) → k < 19 → offset_of b k ≡ get_or (offsets_of d) k 0
unfolding offset_of
offset_is d b s small k inside =
    let entries = length_prefix_sums (96 + length (concat_of (pool_of d))) (map length (blocks_of d)) in
    let blocks = count_lengths d in
    let low = prefix_sums_le (96 + length (concat_of (pool_of d))) (map length (blocks_of d)) k in
    let sum : sum_of (map length (blocks_of d)) ≡ sum_of (lengths_of d) = ap sum_of (lengths_are d) in
    u32_read b 20 (offsets_of d) k s (omega (arith, entries, blocks)) (omega (arith, low, sum))

pub layout_is : (d : ObjDesc) → IsTyped d → length (object_bytes d) ≤ object_limit → Layout d (object_bytes d)
unfolding object_bytes header_of
layout_is d typed small =
    let b = object_bytes d in
    let offsets = u32s_bytes (offsets_of d) in
    let flags = fields_bytes (u32 d.flags ∷ []) in
    let strings = concat_of (pool_of d) in
    let blocks = concat_of (blocks_of d) in
    let eight : length d.fingerprint ≡ 8 = typed.fingerprint in
    let all : IsAt b 0 (header_of d ++ (strings ++ blocks)) = record { inside = omega arith; rest = []; is = sym (append-nil (header_of d ++ (strings ++ blocks))) } in
    let header : IsAt b 0 (magic ++ (d.fingerprint ++ (flags ++ offsets))) = is_at_first b 0 (header_of d) (strings ++ blocks) all in
    let head = length_header d eight in
    let after_magic : IsAt b 8 (d.fingerprint ++ (flags ++ offsets)) = is_at_same b _ 8 _ (is_at_second b 0 magic (d.fingerprint ++ (flags ++ offsets)) header) (omega arith) in
    let after_print : IsAt b 16 (flags ++ offsets) = is_at_same b _ 16 _ (is_at_second b 8 d.fingerprint (flags ++ offsets) after_magic) (omega (arith, eight)) in
    let four : length flags ≡ 4 = length_u32s (d.flags ∷ []) in
    let table : IsAt b 20 offsets = is_at_same b _ 20 _ (is_at_second b 16 flags offsets after_print) (omega (arith, four)) in
    let behind : IsAt b 96 (strings ++ blocks) = is_at_same b _ 96 _ (is_at_second b 0 (header_of d) (strings ++ blocks) all) (omega (arith, head)) in
    let texts : IsAt b 96 strings = is_at_first b 96 strings blocks behind in
    let rest : IsAt b (96 + length strings) blocks = is_at_second b 96 strings blocks behind in
    let whole = length_object d eight in
    let offset = offset_is d b table (omega (arith, whole, small)) in
    let many = count_blocks d in
    record {
      flags = field_read [] [] 4 d.flags b 16 16 (is_at_first b 16 flags offsets after_print) refl (omega (arith, typed.flags));
      fingerprint = range_read b 8 16 d.fingerprint (is_at_first b 8 d.fingerprint (flags ++ offsets) after_magic) (omega (arith, eight));
      strings = texts;
      is_among = λ k inside. is_at_same b _ _ _ (block_is_at b (blocks_of d) (96 + length strings) k (omega (arith, many)) rest) (sym (offset k (omega arith)));
      next = λ k inside. offset (k + 1) (omega arith) ∙ next_is (blocks_of d) (96 + length strings) k (omega (arith, many))
          ∙ ap (λ n. n + length (get_or (blocks_of d) k [])) (sym (offset k (omega arith)));
    }
