-- The four spellings of a setting.
use Rattle.std.proofs.Common.{◌≡◌, ◌<◌, ◌+◌, ◌==◌, ◌&&◌, not, ℕ, Bool, List, [], ◌∷◌, ◌++◌, Some, None, true, false, length, get_or, take, drop, refl, arith, ◌∙◌, suc, zero, if◌then◌else◌}
use Rattle.std.specs.Prelude.{codes, nat_lt}
use Rattle.std.specs.List.{position_or_len}
use Rattle.std.specs.Str.{bytes_eq}
use Rattle.std.proofs.lemmas.Bool.{false≢true}
use Rattle.std.proofs.lemmas.Slice.Eq.{bytes_eq-Decides}
use Rattle.std.proofs.lemmas.List.Sums.{position_or_len_is}
use Rattle.std.proofs.Math.ListN.{get_or-append}
use Rattle.std.proofs.Math.Seq.{get_or-append_seam, take-append_seam, drop-append-add}
use Rattle.std.proofs.lemmas.List.{length-append, append-nil}
use Rattle.glk_base.specs.Flags.{flag, flag_of, flag_with, named_flag, after_dash, equals, dash}
use Rattle.glk_words.specs.declared.commands.Command.{Command}
use Rattle.glk_words.specs.declared.commands.Command.TheVariants as command
use Rattle.glk_words.specs.declared.commands.Flag.{Flag}
use Rattle.glk_words.specs.Values.{found_in}
use Rattle.glk_words.specs.Commands.{flags_of, is_truth, accepts}
use Rattle.glk_words.specs.CommandLine.{FlagSetting, invocation_from, with_value}
use Rattle.glk_words.specs.Laws.{one_more, SpellingsAgree}

-- no equals sign is among these
abbrev free : List ℕ → Bool
free [] = true
free (b ∷ bs) = not (b == equals) && free bs

-- how the name of a flag is spelled
abbrev is_name : List ℕ → Bool
is_name [] = false
is_name (b ∷ bs) = not (b == dash) && free (b ∷ bs)

abbrev all_names : List (List ℕ × Flag) → Bool
all_names [] = true
all_names (row ∷ rows) = is_name row.0 && all_names rows

both_left : (a b : Bool) → a && b ≡ true → a ≡ true
both_left true b h = refl
both_left false b h = h

both_right : (a b : Bool) → a && b ≡ true → b ≡ true
both_right true b h = h
both_right false b h = absurd (false≢true h)

denied : (a : Bool) → not a ≡ true → a ≡ false
denied true h = absurd (false≢true h)
denied false h = refl

found_here : (b : Bool) (row : List ℕ × Flag) (rows : List (List ℕ × Flag)) (name : List ℕ) (f : Flag) → bytes_eq name row.0 ≡ b → is_name row.0 ≡ true
    → (found_in rows name ≡ Some f → is_name name ≡ true) → (if b then Some row.1 else found_in rows name) ≡ Some f → is_name name ≡ true
found_here true row rows name f same here later h = rw ((bytes_eq-Decides name row.0).0 same) here
found_here false row rows name f same here later h = later h

found_name : (rows : List (List ℕ × Flag)) (name : List ℕ) (f : Flag) → all_names rows ≡ true → found_in rows name ≡ Some f → is_name name ≡ true
found_name [] name f names h = grind (arith, h)
found_name (row ∷ rows) name f names h =
    found_here (bytes_eq name row.0) row rows name f refl (both_left (is_name row.0) _ names)
    (found_name rows name f (both_right (is_name row.0) _ names)) h

names_of : (c : Command) → all_names (flags_of c) ≡ true
unfolding flags_of
names_of command.Link = refl
names_of command.Mkobj = refl
names_of command.Dump = refl
names_of command.Nm = refl
names_of command.Addr2line = refl
names_of command.Gen = refl

none_below : (n : ℕ) → n < 0 → ⊥
none_below n h = omega (arith, h)

less_self : (n : ℕ) → n < n → ⊥
less_self n h = omega (arith, h)

no_equals : (name : List ℕ) (k : ℕ) → free name ≡ true → k < length name → (get_or name k 0 == equals) ≡ false
no_equals [] k h inside = absurd (none_below k inside)
no_equals (b ∷ bs) zero h inside = denied (b == equals) (both_left (not (b == equals)) (free bs) h)
no_equals (b ∷ bs) (suc k) h inside = no_equals bs k (both_right (not (b == equals)) (free bs) h) (omega (arith, inside))

cut : (name value : List ℕ) → free name ≡ true → position_or_len (λ b. b == equals) (name ++ equals ∷ value) ≡ length name
cut name value h =
    let all : length (name ++ equals ∷ value) ≡ length name + length (equals ∷ value) = length-append name (equals ∷ value) in
    position_or_len_is (λ b. b == equals) (name ++ equals ∷ value) (length name) 0 (omega (arith, all))
    (λ k inside. rw (get_or-append name (equals ∷ value) 0 k inside) (no_equals name k h inside))
    (λ _. rw (get_or-append_seam name equals value 0) refl)

-- the code between dashes and value
whole : (name : List ℕ) → free name ≡ true → position_or_len (λ b. b == equals) name ≡ length name
whole name h = position_or_len_is (λ b. b == equals) name (length name) 0 (omega arith) (λ k inside. no_equals name k h inside) (λ inside. absurd (less_self (length name) inside))

name_free : (name : List ℕ) → is_name name ≡ true → free name ≡ true
name_free [] h = absurd (false≢true h)
name_free (b ∷ bs) h = both_right (not (b == dash)) (free (b ∷ bs)) h

named_with : (name value : List ℕ) → free name ≡ true → named_flag (name ++ equals ∷ value) ≡ flag name (Some value)
unfolding named_flag
named_with name value h =
    let at : position_or_len (λ b. b == equals) (name ++ equals ∷ value) ≡ length name = cut name value h in
    let all : length (name ++ equals ∷ value) ≡ length name + length (equals ∷ value) = length-append name (equals ∷ value) in
    let front : take (length name) (name ++ equals ∷ value) ≡ name = take-append_seam name (equals ∷ value) in
    let back : drop (length name + 1) (name ++ equals ∷ value) ≡ value = drop-append-add name (equals ∷ value) 1 in
    let inside : nat_lt (length name) (length (name ++ equals ∷ value)) ≡ true = grind (arith, all) in
    rw (at, inside, front, back) refl

named_alone : (name : List ℕ) → free name ≡ true → named_flag name ≡ flag name None
unfolding named_flag
named_alone name h =
    let at : position_or_len (λ b. b == equals) name ≡ length name = whole name h in
    let outside : nat_lt (length name) (length name) ≡ false = grind arith in
    rw (at, outside) refl

-- after dashes a name is a flag's
after_dashes : (b : ℕ) (rest : List ℕ) → (b == dash) ≡ false → (b == equals) ≡ false → flag_with (b ∷ rest) ≡ named_flag (b ∷ rest)
unfolding flag_with
after_dashes b rest apart other = rw (apart, other) refl

spelled_one : (name tail : List ℕ) → is_name name ≡ true → flag_of (codes "-" ++ (name ++ tail)) ≡ named_flag (name ++ tail)
unfolding flag_of after_dash
spelled_one [] tail h = absurd (false≢true h)
spelled_one (b ∷ bs) tail h =
    let apart : (b == dash) ≡ false = denied (b == dash) (both_left (not (b == dash)) _ h) in
    let other : (b == equals) ≡ false = denied (b == equals) (both_left (not (b == equals)) (free bs) (both_right (not (b == dash)) _ h)) in
    rw apart (after_dashes b (bs ++ tail) apart other)

spelled_two : (name tail : List ℕ) → is_name name ≡ true → flag_of (codes "--" ++ (name ++ tail)) ≡ named_flag (name ++ tail)
unfolding flag_of after_dash
spelled_two [] tail h = absurd (false≢true h)
spelled_two (b ∷ bs) tail h =
    let apart : (b == dash) ≡ false = denied (b == dash) (both_left (not (b == dash)) _ h) in
    let other : (b == equals) ≡ false = denied (b == equals) (both_left (not (b == equals)) (free bs) (both_right (not (b == dash)) _ h)) in
    after_dashes b (bs ++ tail) apart other

module _ (c : Command) (settings : List FlagSetting) (n : ℕ) (name : List ℕ) (f : Flag) (value : List ℕ) (words : List (List ℕ)) (found : found_in (flags_of c) name ≡ Some f) (takes : accepts f value ≡ true) where
  with_equals : (word : List ℕ) → flag_of word ≡ flag name (Some value) → invocation_from c None settings n (word ∷ words) ≡ invocation_from c None (one_more settings f value) (n + 1) words
  unfolding invocation_from with_value
  with_equals word is = rw (is, found, takes) refl

  with_next : (word : List ℕ) → flag_of word ≡ flag name None → is_truth f ≡ false → invocation_from c None settings n (word ∷ value ∷ words) ≡ invocation_from c None (one_more settings f value) (n + 1 + 1) words
  unfolding invocation_from with_value
  with_next word is truth = rw (is, found, truth, takes) refl

pub agree : SpellingsAgree
agree c settings n name f value words found takes =
    let is : is_name name ≡ true = found_name (flags_of c) name f (names_of c) found in
    let no : free name ≡ true = name_free name is in
    let one : flag_of (codes "-" ++ name) ≡ named_flag name = rw (append-nil name) at (spelled_one name [] is) in
    let two : flag_of (codes "--" ++ name) ≡ named_flag name = rw (append-nil name) at (spelled_two name [] is) in
    record {
      one_dash = with_equals c settings n name f value words found takes _ (spelled_one name (codes "=" ++ value) is ∙ named_with name value no);
      two_dashes = with_equals c settings n name f value words found takes _ (spelled_two name (codes "=" ++ value) is ∙ named_with name value no);
      one_dash_next = λ truth. with_next c settings n name f value words found takes _ (one ∙ named_alone name no) truth;
      two_dashes_next = λ truth. with_next c settings n name f value words found takes _ (two ∙ named_alone name no) truth;
    }
