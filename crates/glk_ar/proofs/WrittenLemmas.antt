-- What is written is read back.
use Rattle.std.proofs.Common.{rules, ◌≡◌, ℕ, ◌+◌, ◌-◌, ◌%◌, ◌^◌, ◌<◌, ◌≤◌, List, [], ◌∷◌, ◌++◌, length, take, drop, get_or, slice_range, append_assoc, replicate, decimal, eqb, true, false, nat_eq, ap, subst, sym, refl, ◌∙◌, arith, length-append, lit<, inl, inr, zero, suc, add-zero}
use Rattle.std.specs.List.{suffix_len, starts_with, ends_with, position_or_len}
use Rattle.std.specs.Cmp.Lexicographic.{same_text}
use Rattle.std.specs.Str.{bytes_eq}
use Rattle.std.specs.Str.Parse.{digits_value, AllDigits}
use Rattle.std.proofs.lemmas.List.{length-replicate, get_or-replicate, get_or-drop, take_all}
use Rattle.std.proofs.lemmas.List.Sums.{suffix_len_is}
use Rattle.std.proofs.lemmas.Str.Parse.{IsNumeralModel, not_in_digits}
use Rattle.std.proofs.lemmas.Fmt.{digits_decimal, digits_value-decimal, decimal_nonempty, length-decimal-le}
use Rattle.std.proofs.lemmas.Bool.Decides.{eqb_tells}
use Rattle.std.proofs.Math.Seq.{take-append_seam, drop-append_seam, get_or-append_right}
use Rattle.std.proofs.Math.ListN.{get_or-append}
use Rattle.glk_ar.specs.Member.{field_text, space, IsMember, HasHeader, HasEnd, HasSize, HasBody, HasPlainName, header_of, name_of, size_field, size_of, body_of, header_end, system_v_name, bsd_name, name_width, header_length, size_width, size_offset, end_offset}
use Rattle.glk_ar.specs.Archive.{Entry, IsMemberAt, magic, first_offset, after, entry_at}
use Rattle.glk_ar.specs.Part.{mark, newline, IsMarkAt, IsFirstMark, HoldsPart}
use Rattle.glk_ar.specs.Written.{padded_field, object_name, fields_before_size, header_with, object_line, body_with, padding_of, archive_with, archive_length, member_with, part_with, IsReadBack}
use Rattle.glk_base.specs.Limits.{file_limit}

-- the words of std about numerals
pub own : IsNumeralModel (AllDigits 10) (digits_value 10)
own = record { to = λ ds digits. digits; from = λ ds digits. digits; same = λ ds digits. refl }

pub take_prefix : (xs ys : List ℕ) (n : ℕ) → length xs ≡ n → take n (xs ++ ys) ≡ xs
take_prefix xs ys n e = rw (← e) (take-append_seam xs ys)

pub drop_prefix : (xs ys : List ℕ) (n : ℕ) → length xs ≡ n → drop n (xs ++ ys) ≡ ys
drop_prefix xs ys n e = rw (← e) (drop-append_seam xs ys)

pub length_padded : (width : ℕ) (text : List ℕ) → length text ≤ width → length (padded_field width text) ≡ width
length_padded width text fits = omega (arith, length-append text (replicate (width - length text) space), length-replicate (width - length text) space)

-- spaces at the end go, where the text does not end with one
pub field_text_of : (text : List ℕ) (k : ℕ) → (0 < length text → eqb (get_or text (length text - 1) 0) space ≡ false) → field_text (text ++ replicate k space) ≡ text
field_text_of text k last =
    let all : List ℕ = text ++ replicate k space in
    let whole : length all ≡ length text + k = omega (arith, length-append text (replicate k space), length-replicate k space) in
    let tail : (j : ℕ) → length text ≤ j → j < length all → eqb (get_or all j 0) space ≡ true = λ j from to.
    let at : get_or all j 0 ≡ get_or (replicate k space) (j - length text) 0 = get_or-append_right text (replicate k space) j 0 from in
    let here : get_or (replicate k space) (j - length text) 0 ≡ space = get_or-replicate k (j - length text) space 0 (omega arith) in
    rw (at, here) refl in
    let before : 0 < length text → eqb (get_or all (length text - 1) 0) space ≡ false = λ some.
    rw (get_or-append text (replicate k space) 0 (length text - 1) (omega arith)) (last some) in
    let spaces : suffix_len (λ x. eqb x space) all ≡ length all - length text = suffix_len_is (λ x. eqb x space) all (length text) 0 (omega arith) tail before in
    let cut : length all - suffix_len (λ x. eqb x space) all ≡ length text = omega arith in
    rw cut (take-append_seam text (replicate k space))

pub field_text_decimal : (n : ℕ) → n < 10 ^ 10 → field_text (padded_field size_width (decimal n)) ≡ decimal n
field_text_decimal n small =
    let fits : n < 2 ^ 64 = omega arith in
    field_text_of (decimal n) (size_width - length (decimal n)) (λ some.
    elim (eqb_tells (get_or (decimal n) (length (decimal n) - 1) 0) space) [
      | inl same ↦ absurd (not_in_digits own (decimal n) space (digits_decimal own n fits) (λ range. omega arith) (length (decimal n) - 1) (omega arith) same.1)
      | inr other ↦ other.0
    ])

pub length_digits : (n : ℕ) → n < 10 ^ 10 → length (decimal n) ≤ size_width
length_digits n small = length-decimal-le 10 n (lit< tt) small (omega arith)

pub length_header : (n : ℕ) → n < 10 ^ 10 → length (header_with n) ≡ header_length
length_header n small =
    let digits : length (padded_field size_width (decimal n)) ≡ size_width = length_padded size_width (decimal n) (length_digits n small) in
    let fields : length fields_before_size ≡ 48 = refl in
    omega (arith, length-append (fields_before_size ++ padded_field size_width (decimal n)) header_end, length-append fields_before_size (padded_field size_width (decimal n)))

pub filled : (xs : List ℕ) (k n c : ℕ) → n ≡ length xs + k → take n xs ++ replicate (n - length xs) c ≡ xs ++ replicate k c
filled xs k n c e =
    let all : take n xs ≡ xs = take_all n xs (omega arith) in
    let more : n - length xs ≡ k = omega arith in
    rw (all, more) refl

pub length_archive : (goobj : List ℕ) → archive_length goobj ≤ file_limit → length (archive_with goobj) ≡ archive_length goobj
unfolding archive_with
length_archive goobj small =
    let body : List ℕ = body_with goobj in
    let header : length (header_with (length body)) ≡ header_length = length_header (length body) (omega arith) in
    omega (
      arith,
      length-append (magic ++ header_with (length body) ++ body) (padding_of body),
      length-append (magic ++ header_with (length body)) body,
      length-append magic (header_with (length body)),
      length-replicate (length body % 2) newline,
    )

-- These bytes begin with a member that has this header.
pub record IsMade (s : List ℕ) (n : ℕ) (body : List ℕ) : Type 0 where
  pub member : IsMember s
  pub name : name_of s ≡ object_name
  pub size : size_of s ≡ n
  pub body_is : body_of s ≡ body

pub member_by_rules : (s : List ℕ) → HasHeader s → HasEnd s → HasSize s → HasBody s → HasPlainName s → IsMember s
member_by_rules s header ends size body name = λ rule. search rules

pub ends_well : (n : ℕ) → n < 10 ^ 10 → ends_with nat_eq (header_with n) header_end ≡ true
ends_well n small =
    let before : List ℕ = fields_before_size ++ padded_field size_width (decimal n) in
    let ten : length (padded_field size_width (decimal n)) ≡ size_width = length_padded size_width (decimal n) (length_digits n small) in
    let fields : length fields_before_size ≡ 48 = refl in
    let at_end : length before ≡ end_offset = omega (arith, length-append fields_before_size (padded_field size_width (decimal n))) in
    let whole : length (header_with n) ≡ header_length = length_header n small in
    let at : length (header_with n) - length header_end ≡ end_offset = omega arith in
    let rest : drop (length (header_with n) - length header_end) (header_with n) ≡ header_end = ap (λ k. drop k (header_with n)) at ∙ drop_prefix before header_end end_offset at_end in
    ap (λ (t : List ℕ). bytes_eq header_end t) rest

pub made : (n : ℕ) (body rest : List ℕ) → n < 10 ^ 10 → length body ≡ n → IsMade (header_with n ++ (body ++ rest)) n body
made n body rest small long =
    let fits : n < 2 ^ 64 = omega arith in
    let header : List ℕ = header_with n in
    let s : List ℕ = header ++ (body ++ rest) in
    let sixty : length header ≡ header_length = length_header n small in
    let prefix : header_of s ≡ header = take_prefix header (body ++ rest) header_length sixty in
    let tail : drop header_length s ≡ body ++ rest = drop_prefix header (body ++ rest) header_length sixty in
    let ten : length (padded_field size_width (decimal n)) ≡ size_width = length_padded size_width (decimal n) (length_digits n small) in
    let field : slice_range header size_offset end_offset ≡ padded_field size_width (decimal n) = take_prefix (padded_field size_width (decimal n)) header_end size_width ten in
    let digits : size_field s ≡ decimal n =
    ap (λ (h : List ℕ). field_text (slice_range h size_offset end_offset)) prefix ∙ (ap field_text field ∙ field_text_decimal n small) in
    let size : size_of s ≡ n = ap (λ (d : List ℕ). digits_value 10 d) digits ∙ digits_value-decimal own n fits in
    let name : name_of s ≡ object_name = ap (λ (h : List ℕ). field_text (take name_width h)) prefix in
    let whole : length s ≡ header_length + n + length rest = omega (arith, length-append header (body ++ rest), length-append body rest) in
    let has_end : HasEnd s = ap (λ (h : List ℕ). ends_with nat_eq h header_end) prefix ∙ ends_well n small in
    let Spelled : List ℕ → Type 0 = λ d. (0 < length d) × AllDigits 10 d in
    let has_size : HasSize s = subst Spelled (sym digits) (decimal_nonempty n fits, digits_decimal own n fits) in
    let Plain : List ℕ → Type 0 = λ t. (starts_with nat_eq t system_v_name ≡ false) × (starts_with nat_eq t bsd_name ≡ false) in
    let has_name : HasPlainName s = subst Plain (sym name) (refl, refl) in
    let has_header : HasHeader s = omega arith in
    let has_body : HasBody s = omega arith in
    record {
      member = member_by_rules s has_header has_end has_size has_body has_name;
      name = name;
      size = size;
      body_is = ap (λ k. take k (drop header_length s)) size ∙ (ap (λ (t : List ℕ). take n t) tail ∙ take_prefix body rest n long);
    }

-- before the first newline there is none
pub no_newline : (xs : List ℕ) (k : ℕ) → k < position_or_len (λ x. eqb x newline) xs → get_or xs k 0 ≡ newline → ⊥
no_newline [] k below e = omega arith
no_newline (x ∷ xs) zero below e = grind arith
no_newline (x ∷ xs) (suc k) below e = elim (eqb_tells x newline) [
  | inl here ↦ grind (arith, here.0)
  | inr other ↦ no_newline xs k (grind (arith, other.0)) e
]

-- where the mark begins, there is a newline
pub mark_newline : (s : List ℕ) → IsMarkAt s 0 → get_or s 0 0 ≡ newline
mark_newline [] e = cc
mark_newline (x ∷ xs) e =
    let same : mark ≡ take (length mark) (x ∷ xs) = same_text mark (take (length mark) (x ∷ xs)) (sym e) in
    sym (ap (λ (t : List ℕ). get_or t 0 0) same)

pub first_mark : (goobj : List ℕ) → IsFirstMark (body_with goobj) (length object_line)
first_mark goobj =
    let first : position_or_len (λ x. eqb x newline) (body_with goobj) ≡ length object_line = refl in
    record {
      here = refl;
      earlier = λ k before mark_at.
          no_newline (body_with goobj) k (omega arith) (ap (λ j. get_or (body_with goobj) j 0) (sym (add-zero k)) ∙ sym (get_or-drop k (body_with goobj) 0 0) ∙ mark_newline (drop k (body_with goobj)) mark_at);
    }

pub holds : (goobj : List ℕ) → HoldsPart (body_with goobj) (part_with goobj)
holds goobj = record { start = refl; mark_at = length object_line; first = first_mark goobj; at = refl; goobj = refl; line = refl }

pub read_back : (goobj : List ℕ) → archive_length goobj ≤ file_limit → IsReadBack goobj (archive_with goobj)
unfolding archive_with
read_back goobj small =
    let body : List ℕ = body_with goobj in
    let n : ℕ = length body in
    let s : List ℕ = header_with n ++ (body ++ padding_of body) in
    let b : List ℕ = archive_with goobj in
    let tail : drop first_offset b ≡ s = append_assoc (header_with n) body (padding_of body) in
    let it : IsMade s n body = made n body (padding_of body) (omega arith) refl in
    let long : length b ≡ archive_length goobj = length_archive goobj small in
    let by_name : List ℕ → Entry = λ t. record { name = t; body = body; at = first_offset } in
    let by_body : List ℕ → Entry = λ t. record { name = name_of (drop first_offset b); body = t; at = first_offset } in
    let name : object_name ≡ name_of (drop first_offset b) = sym (ap name_of tail ∙ it.name) in
    let content : body ≡ body_of (drop first_offset b) = sym (ap body_of tail ∙ it.body_is) in
    let entry : member_with goobj ≡ entry_at b first_offset = ap by_name name ∙ ap by_body content in
    let here : IsMember (drop first_offset b) = subst IsMember (sym tail) it.member in
    let member : IsMemberAt b first_offset (member_with goobj) = record { inside = omega arith; member = here; entry = entry } in
    let size : size_of (drop first_offset b) ≡ n = ap size_of tail ∙ it.size in
    let last : after b first_offset ≡ length b = omega arith in
    record { archive = (refl, (member, last)); object = holds goobj }

-- what the call writes, and then fills up with newlines to the length
pub written_whole : (out goobj : List ℕ) (n : ℕ) → n ≡ archive_length goobj → n ≤ file_limit
    → out ≡ magic ++ header_with (length (body_with goobj)) ++ body_with goobj → take n out ++ replicate (n - length out) newline ≡ archive_with goobj
unfolding archive_with
written_whole out goobj n whole small pieces =
    let body : List ℕ = body_with goobj in
    let header : length (header_with (length body)) ≡ header_length = length_header (length body) (omega arith) in
    let long : length out ≡ first_offset + header_length + length body =
    ap length pieces ∙ omega (arith, length-append (magic ++ header_with (length body)) body, length-append magic (header_with (length body))) in
    let more : n ≡ length out + length body % 2 = omega arith in
    filled out (length body % 2) n newline more ∙ ap (λ (t : List ℕ). t ++ padding_of body) pieces

pub archive_pieces : (none begun headed out goobj : List ℕ) (size n : ℕ) → none ≡ [] → begun ≡ none ++ magic → headed ≡ begun ++ header_with size
    → out ≡ headed ++ body_with goobj → size ≡ length (body_with goobj) → n ≡ archive_length goobj → n ≤ file_limit
    → take n out ++ replicate (n - length out) newline ≡ archive_with goobj
archive_pieces none begun headed out goobj size n start first second third sized whole small =
    let first' : begun ≡ magic = first ∙ ap (λ (t : List ℕ). t ++ magic) start in
    let second' : headed ≡ magic ++ header_with (length (body_with goobj)) =
    second ∙ ap (λ (t : List ℕ). t ++ header_with size) first' ∙ ap (λ k. magic ++ header_with k) sized in
    written_whole out goobj n whole small (third ∙ ap (λ (t : List ℕ). t ++ body_with goobj) second')

-- the pieces of a body, one after another
pub body_pieces : (out lined marked new goobj : List ℕ) → lined ≡ out ++ object_line → marked ≡ lined ++ mark → new ≡ marked ++ goobj → new ≡ out ++ body_with goobj
body_pieces out lined marked new goobj first second third =
    third ∙ ap (λ (t : List ℕ). t ++ goobj) second ∙ ap (λ (t : List ℕ). t ++ mark ++ goobj) first
    ∙ append_assoc (out ++ object_line) mark goobj ∙ append_assoc out object_line (mark ++ goobj)
