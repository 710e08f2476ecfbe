-- Each key with its hash and a number: the least place at which the key stands.
use Rattle.std.specs.Prelude.{IsTrue, ◌≡◌, ◌<◌, ◌&&◌, ◌==◌, ℕ, Bool, true, false, List, [], map, length, get_or, refl}
use Rattle.std.proofs.Common.{◌∙◌, sym, ap, subst}
use Rattle.std.specs.List.{position_or_len}
use Rattle.std.specs.Str.{bytes_eq}
use Rattle.std.specs.Cmp.Lexicographic.{bytes_decides}
use Rattle.std.proofs.Common.{inl, inr, true≢false, ⊎_elim, arith, ◌≤◌, ◌↔◌}
use Rattle.std.proofs.lemmas.Bool.{eqb-true, eq-eqb, cases_lt}
use Rattle.std.proofs.lemmas.List.{get_or-map, length-map}
use Rattle.std.proofs.lemmas.List.Sums.{fails_before_first, passes_at_first}
use Rattle.glk_table.specs.Keys.{key_of, IsLawful}
use Rattle.glk_keys.specs.Keys.{Key, short, long, of_object, named, same_key, row_keys}
use Rattle.glk_keys.specs.KeyHashes.{key_hash}
use Rattle.glk_keys.specs.Programs.{Program}

abbrev pub number_of : List Key → Key → ℕ
number_of keys key = position_or_len (same_key key) keys

abbrev pub keyed : List Key → List (ℕ × ℕ)
keyed keys = map (λ key. (key_hash key, number_of keys key)) keys

abbrev pub no_key : Key
no_key = short []

both_true : (a b : Bool) → (a && b) ≡ true → (a ≡ true) × (b ≡ true)
both_true true true h = (refl, refl)
both_true true false h = absurd (true≢false (sym h))
both_true false true h = absurd (true≢false (sym h))
both_true false false h = absurd (true≢false (sym h))

both_are : (a b : Bool) → a ≡ true → b ≡ true → (a && b) ≡ true
both_are a b ha hb = ap (λ x. x && b) ha ∙ hb

pair_is : (o i p j : ℕ) → ((o == p) && (i == j)) ≡ true → (o ≡ p) × (i ≡ j)
pair_is o i p j h = let c = both_true (o == p) (i == j) h in (eqb-true o p c.0, eqb-true i j c.1)

lt_or_le : (a b : ℕ) → (b ≤ a → a < b) → a < b
lt_or_le a b f = ⊎_elim (λ lt. lt) f (cases_lt a b)

pub same_is : (a b : Key) → same_key a b ≡ true → a ≡ b
same_is (short a) (short b) h = ap short ((bytes_decides a b).0 h)
same_is (long a) (long b) h = ap long ((bytes_decides a b).0 h)
same_is (of_object o i) (of_object p j) h = let c : (o ≡ p) × (i ≡ j) = pair_is o i p j h in cc
same_is (named a m) (named b n) h = let c = both_true (m == n) (bytes_eq a b) h in let d = (bytes_decides a b).0 c.1 in let e = eqb-true m n c.0 in cc
same_is (short a) (long b) h = absurd (true≢false (sym h))
same_is (short a) (of_object p j) h = absurd (true≢false (sym h))
same_is (short a) (named b n) h = absurd (true≢false (sym h))
same_is (long a) (short b) h = absurd (true≢false (sym h))
same_is (long a) (of_object p j) h = absurd (true≢false (sym h))
same_is (long a) (named b n) h = absurd (true≢false (sym h))
same_is (of_object o i) (short b) h = absurd (true≢false (sym h))
same_is (of_object o i) (long b) h = absurd (true≢false (sym h))
same_is (of_object o i) (named b n) h = absurd (true≢false (sym h))
same_is (named a m) (short b) h = absurd (true≢false (sym h))
same_is (named a m) (long b) h = absurd (true≢false (sym h))
same_is (named a m) (of_object p j) h = absurd (true≢false (sym h))

same_refl : (a : Key) → same_key a a ≡ true
same_refl (short a) = (bytes_decides a a).1 refl
same_refl (long a) = (bytes_decides a a).1 refl
same_refl (of_object o i) = both_are (o == o) (i == i) (eq-eqb o o refl) (eq-eqb i i refl)
same_refl (named a m) = both_are (m == m) (bytes_eq a a) (eq-eqb m m refl) ((bytes_decides a a).1 refl)

-- a key that stands in the list stands at its number
pub stands : (keys : List Key) (a : ℕ) → a < length keys → number_of keys (get_or keys a no_key) < length keys
stands keys a h =
    lt_or_le (number_of keys (get_or keys a no_key)) (length keys) (λ long.
    let before : a < number_of keys (get_or keys a no_key) = omega arith in
    absurd (true≢false (sym (same_refl (get_or keys a no_key)) ∙ fails_before_first (same_key (get_or keys a no_key)) keys a no_key before)))

pub is_at : (keys : List Key) (a : ℕ) → a < length keys → get_or keys a no_key ≡ get_or keys (number_of keys (get_or keys a no_key)) no_key
is_at keys a h = same_is _ _ (passes_at_first (same_key (get_or keys a no_key)) keys no_key (stands keys a h))

pub number_same : (keys : List Key) (a b : ℕ) → a < length keys → b < length keys → number_of keys (get_or keys a no_key) ≡ number_of keys (get_or keys b no_key) → get_or keys a no_key ≡ get_or keys b no_key
number_same keys a b ha hb e = is_at keys a ha ∙ ap (λ i. get_or keys i no_key) e ∙ sym (is_at keys b hb)

pub key_at : (keys : List Key) (a : ℕ) → a < length keys → get_or (keyed keys) a (0, 0) ≡ (key_hash (get_or keys a no_key), number_of keys (get_or keys a no_key))
key_at keys a h = get_or-map (λ key. (key_hash key, number_of keys key)) keys a no_key (0, 0) h

pub keys_long : (keys : List Key) → length (keyed keys) ≡ length keys
keys_long keys = length-map keys (λ key. (key_hash key, number_of keys key))

pub keyed_lawful : (keys : List Key) → IsLawful (keyed keys)
keyed_lawful keys a b ha hb e =
    let la : a < length keys = subst (λ (n : ℕ). a < n) (keys_long keys) ha in
    let lb : b < length keys = subst (λ (n : ℕ). b < n) (keys_long keys) hb in
    let ka = key_at keys a la in
    let kb = key_at keys b lb in
    let numbers : number_of keys (get_or keys a no_key) ≡ number_of keys (get_or keys b no_key) = sym (ap (λ p. p.1) ka) ∙ e ∙ ap (λ p. p.1) kb in
    ap (λ p. p.0) ka ∙ ap key_hash (number_same keys a b la lb numbers) ∙ sym (ap (λ p. p.0) kb)

-- equal numbers are equal keys
pub same_key_of : (keys : List Key) (a b : ℕ) → a < length keys → b < length keys → (key_of (keyed keys) a ≡ key_of (keyed keys) b) ↔ (get_or keys a no_key ≡ get_or keys b no_key)
same_key_of keys a b la lb =
    let ka = key_at keys a la in
    let kb = key_at keys b lb in
    (λ e. number_same keys a b la lb (sym (ap (λ p. p.1) ka) ∙ e ∙ ap (λ p. p.1) kb), λ e. ap (λ p. p.1) ka ∙ ap (number_of keys) e ∙ sym (ap (λ p. p.1) kb))

-- the test of two keys of the list is the test of their numbers
pub same_test : (keys : List Key) (a b : ℕ) → a < length keys → b < length keys → IsTrue (same_key (get_or keys a no_key) (get_or keys b no_key)) ↔ (key_of (keyed keys) a ≡ key_of (keyed keys) b)
same_test keys a b la lb =
    let k = same_key_of keys a b la lb in
    (λ t. k.1 (same_is _ _ t), λ e. subst (λ (n : Key). same_key (get_or keys a no_key) n ≡ true) (k.0 e) (same_refl (get_or keys a no_key)))

-- the keys of a program's rows, as the table is told of them
abbrev pub keys_of : Program → List (ℕ × ℕ)
keys_of p = keyed (row_keys p)

-- no key has a number past its place
first_number : (keys : List Key) (a : ℕ) → number_of keys (get_or keys a no_key) ≤ a
first_number keys a =
    elim (cases_lt a (number_of keys (get_or keys a no_key))) [
      | inl m ↦ absurd (true≢false (sym (same_refl (get_or keys a no_key)) ∙ fails_before_first (same_key (get_or keys a no_key)) keys a no_key m))
      | inr g ↦ g
    ]

pub number_at : (keys : List Key) (a : ℕ) → a < length keys → key_of (keyed keys) a ≡ number_of keys (get_or keys a no_key)
number_at keys a h = ap (λ (p : ℕ × ℕ). p.1) (key_at keys a h)

-- the least place of a key is its number
pub least_number : (keys : List Key) (a k : ℕ) → a < length keys → k < length keys → key_of (keyed keys) k ≡ key_of (keyed keys) a
    → ((b : ℕ) → b < length keys → key_of (keyed keys) b ≡ key_of (keyed keys) a → k ≤ b) → k ≡ number_of keys (get_or keys a no_key)
least_number keys a k ha hk same least =
    let n = number_of keys (get_or keys a no_key) in
    let inside : n < length keys = stands keys a ha in
    let of_n : key_of (keyed keys) n ≡ key_of (keyed keys) a = number_at keys n inside ∙ ap (number_of keys) (sym (is_at keys a ha)) ∙ sym (number_at keys a ha) in
    let below : k ≤ n = least n inside of_n in
    let e : number_of keys (get_or keys k no_key) ≡ n = sym (number_at keys k hk) ∙ same ∙ number_at keys a ha in
    let above = first_number keys k in
    omega arith
