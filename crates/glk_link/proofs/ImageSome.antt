-- There is an image of what is kept where all of it is such as golink places.
use Rattle.std.proofs.Common.{◌≡◌, ◌<◌, ◌≤◌, ◌+◌, ◌-◌, ◌*◌, ◌/◌, ◌%◌, ◌==◌, Bool, true, false, ℕ, zero, suc, ℤ, List, [], ◌∷◌, ◌++◌, length, get_or, take, drop, map, replicate, All, Some, inl, inr, refl, sym, ap, ◌∙◌, subst, arith, drop-cons, length-append}
use Rattle.std.specs.Prelude.{slice_range, slice_index, ◌||◌, if◌then◌else◌}
use Rattle.std.specs.Int.{cast_unsigned, w32}
use Rattle.std.specs.List.{Contains, range_with_len}
use Rattle.std.specs.Option.{unwrap_or}
use Rattle.byteorder.specs.Numbers.{length-bytes_low_first}
use Rattle.std.proofs.lemmas.Bool.{cases_lt, cases_eq}
use Rattle.std.proofs.lemmas.List.{drop_all, length-take, length-drop, length-replicate, get_or-replicate, get_or-take, get_or-drop, get_or_append_left, get_or-append_right, take_at}
use Rattle.std.proofs.lemmas.List.Elements.{All-nil, All-cons, All-head, All-tail}
use Rattle.std.proofs.lemmas.List.FromFn.{get_or-map-range_with_len}
use Rattle.glk_base.specs.Multiples.{IsLeastMultiple}
use Rattle.glk_base.proofs.MultipleLemmas.{multiple_is_least}
use Rattle.glk_obj.specs.Records.{field_start}
use Rattle.glk_elf.specs.Image.{Parts, page_size, elf_bytes}
use Rattle.glk_elf.specs.Placing.{IsPlaced, ArePlaced, text_start, section_align, start_multiple, parts_with, of_section}
use Rattle.glk_elf.specs.Sections.{text, rodata, go_module, bss, noptrbss, tbss}
use Rattle.glk_elf.proofs.FillLemmas.{section_is, made_placed}
use Rattle.glk_arena.specs.World.{Package, objects_of}
use Rattle.glk_link.specs.World.{AreObjects, byte_count, rows, IsDefinition, symbol_at, data_at, reloc_count, reloc_at}
use Rattle.glk_link.specs.Targets.{target_of}
use Rattle.glk_link.specs.Built.{call_size, IsBuilt}
use Rattle.glk_link.specs.Layout.{AreAt, alignment_of, room_of, least_room, address_of}
use Rattle.glk_link.specs.Contents.{call_value, field_bytes, IsContent, IsTextFrom, padding}
use Rattle.glk_link.specs.Plans.{linked_bytes, code_limit, text_limit, AreLow, AreByRow, AreChosen}
use Rattle.glk_link.specs.Image.{HasTextAlone, IsImageOf}
use Rattle.glk_link.proofs.RowLaws.{row_aligned}
use Rattle.glk_link.proofs.TargetLaws.{row_found}
use Rattle.glk_link.proofs.PlaceSteps.{alignment_some, alignment_most, end_bound, end_step, start_low, start_bound, address_place}
use Rattle.glk_link.proofs.FieldSteps.{field_inside, AreFilled, filled_none, filled_more, filled_all}
use Rattle.glk_link.proofs.TextSteps.{size_within, room_small, text_weaker}
use Rattle.glk_link.proofs.ContentOnce.{address_some}
use Rattle.glk_link.proofs.ImageSteps.{sizes_alone, alone_limit, alone_empty}

-- Addresses.

-- these are at addresses from an end on, all of them low
record AreSet (world : List Package) (end : ℕ) (kept addrs : List ℕ) : Type 0 where
  at : AreAt world end kept addrs
  low : AreLow addrs

none_set : (world : List Package) (end : ℕ) (kept : List ℕ) → kept ≡ [] → AreSet world end kept []
none_set world end kept none = record {
  at = let P : List ℕ → Type 0 = λ is. AreAt world end is [] in subst P (sym none) tt;
  low = All-nil (λ a. a < code_limit);
}

module _ (world : List Package) (kept : List ℕ) (chosen : AreChosen world kept) where
  set_from : (left n end : ℕ) → n + left ≡ length kept → end ≤ end_bound world kept n → (addrs : List ℕ) × AreSet world end (drop n kept) addrs
  set_from zero n end all bound = ([], none_set world end (drop n kept) (drop_all n kept (omega (arith, all))))
  set_from (suc left) n end all bound =
      let i : ℕ = get_or kept n 0 in
      let lt : n < length kept = omega (arith, all) in
      let built : IsBuilt world i = chosen.built n 0 lt in
      let range = chosen.range n 0 lt in
      let aligned = row_aligned world i chosen.objects range.row (omega (arith, built.code), omega (arith, built.code)) in
      let most = alignment_most (symbol_at world i) aligned in
      let addr : ℕ = (end + (alignment_of (symbol_at world i) - 1)) / alignment_of (symbol_at world i) * alignment_of (symbol_at world i) in
      let least : IsLeastMultiple (alignment_of (symbol_at world i)) end addr = multiple_is_least (alignment_of (symbol_at world i)) end (alignment_some (symbol_at world i)) in
      let near : addr < end + 4096 = omega (arith, least.least, most) in
      let low : addr < code_limit = start_low world kept n end addr chosen.objects chosen.small chosen.rising chosen.range lt bound near in
      let step = end_step world kept n end addr chosen.objects chosen.rising chosen.range lt built bound near in
      let later = set_from left (n + 1) (addr + room_of (symbol_at world i)) (omega (arith, all)) step in
      (addr ∷ later.0, here n i addr end later.0 lt refl least low later.1)
    where
      here : (n i addr end : ℕ) (later : List ℕ) → n < length kept → i ≡ get_or kept n 0 → IsLeastMultiple (alignment_of (symbol_at world i)) end addr → addr < code_limit
          → AreSet world (addr + room_of (symbol_at world i)) (drop (n + 1) kept) later → AreSet world end (drop n kept) (addr ∷ later)
      here n i addr end later lt same least low set =
          let split : drop n kept ≡ i ∷ drop (n + 1) kept = drop-cons kept n 0 lt ∙ ap (λ m. get_or kept n 0 ∷ drop m kept) (let e : suc n ≡ n + 1 = omega arith in e) ∙ ap (λ m. m ∷ drop (n + 1) kept) (sym same) in
          let P : List ℕ → Type 0 = λ is. AreAt world end is (addr ∷ later) in
          record { at = subst P (sym split) (least, set.at); low = All-cons (λ a. a < code_limit) addr later low set.low }

  addrs_some : (addrs : List ℕ) × AreSet world text_start kept addrs
  addrs_some = set_from (length kept) 0 text_start (omega arith) (start_bound world kept)

  -- the address of each row
  places_of : List ℕ → List ℕ
  places_of addrs = map (λ t. unwrap_or (address_of kept addrs t) 0) (range_with_len 0 (rows (objects_of world)))

  by_row : (addrs : List ℕ) → AreByRow kept addrs (places_of addrs)
  unfolding places_of
  by_row addrs t a is =
      let place = address_place kept addrs t a is in
      let row : t < rows (objects_of world) = subst (λ (r : ℕ). r < rows (objects_of world)) place.3 (chosen.range place.0 0 place.1).row in
      get_or-map-range_with_len (λ t. unwrap_or (address_of kept addrs t) 0) 0 (rows (objects_of world)) t t 0 row (omega arith) ∙ ap (λ o. unwrap_or o 0) is

-- Fields.

-- the field of four bytes is replaced
with_field : List ℕ → ℕ → List ℕ → List ℕ
with_field xs at field = take at xs ++ (field ++ drop (at + call_size) xs)

module _ (xs : List ℕ) (at : ℕ) (field : List ℕ) (room : at + call_size ≤ length xs) (four : length field ≡ call_size) where
  front : length (take at xs) ≡ at
  front = omega (arith, length-take {A = ℕ} at xs, room)

  field_size : length (with_field xs at field) ≡ length xs
  unfolding with_field
  field_size =
      length-append (take at xs) (field ++ drop (at + call_size) xs)
      ∙ omega (arith, front, length-append field (drop (at + call_size) xs), length-drop {A = ℕ} (at + call_size) xs, four, room)

  -- what is after the front
  field_drop : drop at (with_field xs at field) ≡ field ++ drop (at + call_size) xs
  unfolding with_field
  field_drop = drop_front (take at xs) (field ++ drop (at + call_size) xs) at front
    where
      drop_front : (xs ys : List ℕ) (n : ℕ) → length xs ≡ n → drop n (xs ++ ys) ≡ ys
      drop_front [] ys n e = let P : ℕ → Type 0 = λ m. drop m ys ≡ ys in subst P e refl
      drop_front (x ∷ xs) ys zero e = absurd (omega (arith, e))
      drop_front (x ∷ xs) ys (suc n) e = drop_front xs ys n (omega (arith, e))

  field_is : slice_range (with_field xs at field) at (at + call_size) ≡ field
  field_is =
      let size : at + call_size - at ≡ call_size = omega arith in
      ap (λ n. take n (drop at (with_field xs at field))) size ∙ ap (λ ys. take call_size ys) field_drop
      ∙ take_at field (drop (at + call_size) xs) call_size four

  field_others : (p : ℕ) → ((at ≤ p) → (p < at + call_size) → ⊥) → get_or (with_field xs at field) p 0 ≡ get_or xs p 0
  unfolding with_field
  field_others p outside =
      elim (cases_lt p at) [
        | inl before ↦ get_or_append_left (take at xs) (field ++ drop (at + call_size) xs) 0 p (omega (arith, front, before)) ∙ get_or-take at xs p 0 before
        | inr from ↦ elim (cases_lt p (at + call_size)) [
          | inl within ↦ absurd (outside from within)
          | inr behind ↦
              let rest : at + call_size + (p - at - call_size) ≡ p = omega (arith, behind) in
              get_or-append_right (take at xs) (field ++ drop (at + call_size) xs) at p 0 front from
              ∙ get_or-append_right field (drop (at + call_size) xs) call_size (p - at) 0 four (omega (arith, behind))
              ∙ get_or-drop (at + call_size) xs (p - at - call_size) 0
              ∙ ap (λ n. get_or xs n 0) rest
        ]
      ]

four_bytes : (value : ℤ) → length (field_bytes value) ≡ call_size
unfolding field_bytes
four_bytes value = length-bytes_low_first 0 call_size (cast_unsigned w32 value)

module _ (world : List Package) (places : List ℕ) (i addr : ℕ) (objects : AreObjects (objects_of world)) (definition : IsDefinition world i) (built : IsBuilt world i) where
  filled_some : (k : ℕ) → k ≤ reloc_count world i → (bytes : List ℕ) × AreFilled world places i addr k bytes
  filled_some zero within = (data_at world i, filled_none world places i addr (data_at world i) built refl)
  filled_some (suc k) within = one_more (filled_some k (omega (arith, within))) (omega (arith, within))
    where
      next : k + 1 ≡ suc k
      next = omega arith

      one_more : (bytes : List ℕ) × AreFilled world places i addr k bytes → k < reloc_count world i → (bytes : List ℕ) × AreFilled world places i addr (suc k) bytes
      one_more (xs, filled) index =
          let at : ℕ = field_start (reloc_at world i k) in
          let called = row_found (target_of world i (reloc_at world i k).target) (built.calls k index).called in
          let value : ℤ = call_value (slice_index places called.0) (reloc_at world i k).add (addr + at) in
          let inside = field_inside world i k objects definition built index in
          let room : at + call_size ≤ length xs = omega (arith, inside, filled.size) in
          let ys : List ℕ = with_field xs at (field_bytes value) in
          let four = four_bytes value in (
            ys,
            subst (λ (n : ℕ). AreFilled world places i addr n ys) next
                (filled_more world places i addr k called.0 xs ys at value objects definition built index filled refl called.1 refl
                (field_size xs at (field_bytes value) room four) (field_is xs at (field_bytes value) room four) (field_others xs at (field_bytes value) room four)),
          )

  content_some : (content : List ℕ) × IsContent world (λ t. Some (slice_index places t)) i addr content
  content_some =
      let f = filled_some (reloc_count world i) (omega arith) in
      (f.0, filled_all world places i addr (reloc_count world i) f.0 (omega arith) (omega arith) f.1)

-- The text.

size_room : (world : List Package) (i : ℕ) → (symbol_at world i).size ≤ room_of (symbol_at world i)
unfolding room_of
size_room world i = omega arith

-- no function ends past this
abbrev most_text : ℕ
most_text = code_limit + (linked_bytes + least_room)

-- a text from a bound on, which ends before the limit
record IsShortText (world : List Package) (places : List ℕ) (bound : ℕ) (is addrs bytes : List ℕ) : Type 0 where
  text : IsTextFrom world (λ t. Some (slice_index places t)) bound is addrs bytes
  short : bound ≤ most_text → bound + length bytes ≤ most_text

module _ (world : List Package) (places : List ℕ) (objects : AreObjects (objects_of world)) (small : byte_count (objects_of world) ≤ linked_bytes) where
  text_some : (bound : ℕ) (is addrs : List ℕ) → AreAt world bound is addrs → AreLow addrs → All (IsDefinition world) is → All (IsBuilt world) is
      → (bytes : List ℕ) × IsShortText world places bound is addrs bytes
  text_some bound [] [] at low range built = ([], record { text = refl; short = λ le. omega (arith, le) })
  text_some bound [] (a ∷ addrs) at low range built = absurd at
  text_some bound (i ∷ is) [] at low range built = absurd at
  text_some bound (i ∷ is) (a ∷ addrs) at low range built =
      let definition = All-head (IsDefinition world) i is range in
      let whole = All-head (IsBuilt world) i is built in
      let content = content_some world places i a objects definition whole in
      let rest = text_some (a + room_of (symbol_at world i)) is addrs at.1 (All-tail (λ b. b < code_limit) a addrs low)
      (All-tail (IsDefinition world) i is range) (All-tail (IsBuilt world) i is built) in
      let before : List ℕ = padding (a - bound) in
      let behind : List ℕ = padding (room_of (symbol_at world i) - length content.0) in
      let fits = size_room world i in
      let size : length content.0 ≡ (symbol_at world i).size = content.1.size in
      let within = size_within world i objects definition whole in
      let room = room_small world i (omega (arith, within, small)) in
      let here : a < code_limit = All-head (λ b. b < code_limit) a addrs low in
      let short : a + room_of (symbol_at world i) + length rest.0 ≤ most_text = rest.1.short (omega (arith, here, room)) in
      let long : length (before ++ content.0 ++ behind ++ rest.0) ≡ a - bound + (length content.0 + (room_of (symbol_at world i) - length content.0 + length rest.0)) =
      length-append (before ++ content.0 ++ behind) rest.0
      ∙ omega (arith, length-append (before ++ content.0) behind, length-append before content.0, length-replicate {A = ℕ} (a - bound) 0xCC, length-replicate {A = ℕ} (room_of (symbol_at world i) - length content.0) 0xCC) in (
        before ++ content.0 ++ behind ++ rest.0,
        record {
          text = (content.0, rest.0, content.1, refl, rest.1.text);
          short = λ le. omega (arith, long, short, fits, size, at.0.above);
        },
      )

-- The image.

-- all sections but `.text` are at one address
alone_addrs : ℕ → List ℕ
alone_addrs size = text_start ∷ replicate 10 ((text_start + size + (4096 - 1)) / 4096 * 4096)

others_at : (size n : ℕ) → rodata ≤ n → n ≤ tbss → of_section (alone_addrs size) n ≡ (text_start + size + (4096 - 1)) / 4096 * 4096
unfolding alone_addrs
others_at size n low high =
    let place : n - 1 ≡ suc (n - 2) = omega (arith, low) in
    let P : ℕ → Type 0 = λ k. get_or (text_start ∷ replicate 10 ((text_start + size + (4096 - 1)) / 4096 * 4096)) k 0 ≡ (text_start + size + (4096 - 1)) / 4096 * 4096 in
    subst P (sym place) (get_or-replicate 10 (n - 2) ((text_start + size + (4096 - 1)) / 4096 * 4096) 0 (omega (arith, low, high)))

-- from a page on each section starts where the empty one before it does
stays_there : (page : Bool) (a : ℕ) → a % 4096 ≡ 0 → IsLeastMultiple (if page then page_size else section_align) a a
stays_there true a even = record { multiple = even; above = omega arith; least = omega arith }
stays_there false a even = record { multiple = omega (arith, even); above = omega arith; least = omega arith }

same_place : (m a b s c : ℕ) → b ≡ a → s ≡ 0 → c ≡ a → IsLeastMultiple m a a → IsLeastMultiple m (b + s) c
same_place m a b s c b_is s_is c_is h = record {
  multiple = ap (λ x. x % m) c_is ∙ h.multiple;
  above = omega (arith, b_is, s_is, c_is);
  least = omega (arith, b_is, s_is, c_is, h.least);
}

alone_placed : (size : ℕ) → ArePlaced (sizes_alone size) (alone_addrs size)
unfolding alone_addrs
alone_placed size = record {
  eleven = omega (arith, length-replicate {A = ℕ} 10 ((text_start + size + (4096 - 1)) / 4096 * 4096));
  text_at = refl;
  follows = λ n low high. elim (cases_eq n rodata) [
    | inl e ↦ subst Follows (sym e) first
    | inr ne ↦ later n (omega (arith, low, ne)) high
  ];
  tbss_at = others_at size tbss (omega arith) (omega arith) ∙ sym (others_at size bss (omega arith) (omega arith));
}
  where
    a : ℕ
    a = (text_start + size + (4096 - 1)) / 4096 * 4096

    Follows : ℕ → Type 0
    Follows n = IsLeastMultiple (start_multiple n) (of_section (alone_addrs size) (n - 1) + of_section (sizes_alone size) (n - 1)) (of_section (alone_addrs size) n)

    page : IsLeastMultiple 4096 (text_start + size) a
    page = multiple_is_least 4096 (text_start + size) (omega arith)

    first : Follows rodata
    first =
        let P : ℕ → Type 0 = λ x. IsLeastMultiple 4096 (text_start + size) x in
        subst P (sym (others_at size rodata (omega arith) (omega arith))) page

    later : (n : ℕ) → rodata < n → n ≤ noptrbss → Follows n
    later n low high =
        same_place (start_multiple n) a (of_section (alone_addrs size) (n - 1)) (of_section (sizes_alone size) (n - 1)) (of_section (alone_addrs size) n)
        (others_at size (n - 1) (omega (arith, low)) (omega (arith, high))) (alone_empty size (n - 1) (omega (arith, low))) (others_at size n (omega (arith, low)) (omega (arith, high)))
        (stays_there ((n == rodata) || (n == go_module)) a page.multiple)

-- the bytes of the sections in the file
alone_bytes : List ℕ → List (List ℕ)
alone_bytes bytes = bytes ∷ [] ∷ [] ∷ [] ∷ [] ∷ [] ∷ [] ∷ [] ∷ []

parts_of : ℕ → List ℕ → Parts
parts_of entry bytes = parts_with entry (sizes_alone (length bytes)) (alone_addrs (length bytes)) (alone_bytes bytes) []

parts_placed : (entry : ℕ) (bytes : List ℕ) → length bytes ≤ text_limit → IsPlaced (parts_of entry bytes)
unfolding parts_of alone_bytes
parts_placed entry bytes short =
    let low = alone_limit (length bytes) (alone_addrs (length bytes)) short (alone_placed (length bytes)) in
    let none = alone_empty (length bytes) noptrbss (omega arith) in
    made_placed entry (sizes_alone (length bytes)) (alone_addrs (length bytes)) (alone_bytes bytes) [] (omega (arith, length-replicate {A = ℕ} 10 0)) (alone_placed (length bytes))
    (omega (arith, low, none)) refl (λ k d lt. absurd (omega (arith, lt))) (omega arith) (omega arith)

parts_text : (entry : ℕ) (bytes : List ℕ) → HasTextAlone (parts_of entry bytes) bytes
unfolding parts_of alone_bytes
parts_text entry bytes =
    let is = section_is entry (sizes_alone (length bytes)) (alone_addrs (length bytes)) (alone_bytes bytes) [] in
    record {
      code = ap (λ s. s.bytes) (is text (omega arith) (omega arith));
      empty = λ n low high. ap (λ s. s.size) (is n (omega (arith, low)) high) ∙ alone_empty (length bytes) n low;
      no_rows = refl;
    }

parts_entry : (entry : ℕ) (bytes : List ℕ) → (parts_of entry bytes).entry ≡ entry
unfolding parts_of
parts_entry entry bytes = refl

pub image_some : (world : List Package) (kept : List ℕ) (start : ℕ) → AreChosen world kept → Contains kept start → (image : List ℕ) × IsImageOf world kept start image
image_some world kept start chosen within =
    let addrs = addrs_some world kept chosen in
    let places = places_of world kept chosen addrs.0 in
    let bytes = text_some world places chosen.objects chosen.small text_start kept addrs.0 addrs.1.at addrs.1.low chosen.range chosen.built in
    let entry = address_some world text_start kept addrs.0 start addrs.1.at within in
    let short = bytes.1.short (omega arith) in (
      elf_bytes (parts_of entry.0 bytes.0),
      record {
        addrs = addrs.0;
        bytes = bytes.0;
        parts = parts_of entry.0 bytes.0;
        are_at = addrs.1.at;
        is_text = text_weaker world (address_of kept addrs.0) (λ t. Some (slice_index places t)) text_start kept addrs.0 bytes.0
            (λ t a is. ap Some (by_row world kept chosen addrs.0 t a is)) bytes.1.text;
        starts = entry.1 ∙ ap Some (sym (parts_entry entry.0 bytes.0));
        sections = parts_text entry.0 bytes.0;
        placed = parts_placed entry.0 bytes.0 (omega (arith, short));
        joined = refl;
      },
    )
