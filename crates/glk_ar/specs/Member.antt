-- A member of an archive, read from the bytes that begin at its header: a suffix s of the file.
use Rattle.std.specs.Prelude.{◌≡◌, ◌+◌, ◌-◌, ◌<◌, ◌≤◌, ◌==◌, ℕ, List, [], ◌∷◌, length, take, drop, slice_range, codes, nat_eq, true, false, cond, MatchBool}
use Rattle.std.specs.List.{suffix_len, starts_with, ends_with}
use Rattle.std.specs.Str.Parse.{digits_value, AllDigits}

-- The fields of a header, by their widths: text, padded with spaces at its end.
abbrev pub name_width : ℕ
name_width = 16

abbrev pub time_width : ℕ
time_width = 12

abbrev pub user_width : ℕ
user_width = 6

abbrev pub group_width : ℕ
group_width = 6

abbrev pub mode_width : ℕ
mode_width = 8

abbrev pub size_width : ℕ
size_width = 10

-- the most digits of a size
abbrev pub most_digits : ℕ
most_digits = size_width

-- After them come a backquote and a newline.
abbrev pub header_end : List ℕ
header_end = 96 ∷ 10 ∷ []

abbrev pub size_offset : ℕ
size_offset = name_width + time_width + user_width + group_width + mode_width

abbrev pub end_offset : ℕ
end_offset = size_offset + size_width

abbrev pub header_length : ℕ
header_length = end_offset + 2

abbrev pub space : ℕ
space = 32

-- a field without the spaces at its end
abbrev pub field_text : List ℕ → List ℕ
field_text field = take (length field - suffix_len (λ x. x == space) field) field

abbrev pub header_of : List ℕ → List ℕ
header_of s = take header_length s

abbrev pub name_of : List ℕ → List ℕ
name_of s = field_text (take name_width (header_of s))

abbrev pub size_field : List ℕ → List ℕ
size_field s = field_text (slice_range (header_of s) size_offset end_offset)

-- The size is the number of bytes of the body; it may have leading zeros.
abbrev pub size_of : List ℕ → ℕ
size_of s = digits_value 10 (size_field s)

abbrev pub body_of : List ℕ → List ℕ
body_of s = take (size_of s) (drop header_length s)

-- A2: there is room for a header.
abbrev pub HasHeader : List ℕ → Type 0
HasHeader s = header_length ≤ length s

-- A3: the header ends as headers do.
abbrev pub HasEnd : List ℕ → Type 0
HasEnd s = ends_with nat_eq (header_of s) header_end ≡ true

-- A4: the size is spelled in digits, one at least.
abbrev pub HasSize : List ℕ → Type 0
HasSize s = (0 < length (size_field s)) × AllDigits 10 (size_field s)

-- A5: the body is inside the file.
abbrev pub HasBody : List ℕ → Type 0
HasBody s = header_length + size_of s ≤ length s

-- A6: the name is neither one of System V's special and long names nor a long name of BSD.
abbrev pub system_v_name : List ℕ
system_v_name = codes "/"

abbrev pub bsd_name : List ℕ
bsd_name = codes "#1/"

abbrev pub HasPlainName : List ℕ → Type 0
HasPlainName s =
    (starts_with nat_eq (name_of s) system_v_name ≡ false) × (starts_with nat_eq (name_of s) bsd_name ≡ false)

-- Rule `rule` is kept by the bytes from a header on.
abbrev pub Keeps : List ℕ → ℕ → Type 0
Keeps s rule =
    MatchBool (rule == 2) (HasHeader s)
    (MatchBool (rule == 3) (HasEnd s)
    (MatchBool (rule == 4) (HasSize s)
    (MatchBool (rule == 5) (HasBody s)
    (MatchBool (rule == 6) (HasPlainName s) (Unit {0})))))

-- where a broken rule points to, from the header on
abbrev pub rule_offset : ℕ → ℕ
rule_offset rule = cond (rule == 3) end_offset (cond (rule == 4) size_offset (cond (rule == 5) header_length 0))

-- The bytes begin with a member: no rule is broken.
abbrev pub IsMember : List ℕ → Type 0
IsMember s = (rule : ℕ) → Keeps s rule

-- Of the rules that are broken here this one has the least number.
abbrev pub BreaksFirst : List ℕ → ℕ → Type 0
BreaksFirst s rule = (¬ Keeps s rule) × ((k : ℕ) → k < rule → Keeps s k)
