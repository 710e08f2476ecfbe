-- Pieces and texts in a sink, one after the other.
use Rattle.std.proofs.Common.{◌≡◌, ◌≤◌, ◌<◌, length-append, ℕ, ◌+◌, List, [], ◌∷◌, ◌++◌, get_or, Bor, sym, ap, ◌∙◌, add-one, take, drop, length, ◌-◌, Option, Some, None, Result, Ok, Err, OnErr, refl, append_assoc, arith}
use Rattle.std.specs.Io.KnownBytes.{Appends}
use Rattle.std.proofs.Math.Seq.{take-add, take-append-add, take-suc}
use Rattle.std.proofs.lemmas.List.{take-append-le, take-append-drop, append-nil}
use Rattle.std.specs.Result.{IsErrAnd}
use Rattle.glk_io.specs.Changes.{SinkState, SinkAppends, SinkFails, WritesText}
use Rattle.glk_io.specs.Streams.{AppendsPrefix, joined}
use Rattle.std.proofs.lemmas.Grind.{common_steps}

-- a prefix of i bytes, and after it n more
pub appends_more : (a b c : Option (List ℕ)) (p : List ℕ) (i n : ℕ) → Appends a b (take i p) → Appends b c (take n (drop i p)) → Appends a c (take (i + n) p)
appends_more None b c p i n h k = tt
appends_more (Some xs) None c p i n h k = absurd h
appends_more (Some xs) (Some ys) None p i n h k = absurd k
appends_more (Some xs) (Some ys) (Some zs) p i n h k =
    let e = take-add i n p in
    rw (k, h, e) (append_assoc xs (take i p) (take n (drop i p)))

-- the whole rest of a piece
pub take_short : (n i : ℕ) (p : List ℕ) → take n (take (length p - i) (drop i p)) ≡ take n (drop i p)
take_short n i p =
    let whole : take (length p - i) (drop i p) ≡ drop i p = grind (arith, common_steps) in
    rw whole refl

-- two pieces, one after the other
pub both_whole : (a b c : Option (List ℕ)) (xs ys : List ℕ) → Appends a b xs → Appends b c ys → Appends a c (xs ++ ys)
both_whole None b c xs ys h k = tt
both_whole (Some ps) None c xs ys h k = absurd h
both_whole (Some ps) (Some bs) None xs ys h k = absurd k
both_whole (Some ps) (Some bs) (Some cs) xs ys h k = rw (k, h) (append_assoc ps xs ys)

-- a prefix of the first of two pieces
pub prefix_left : (a b : Option (List ℕ)) (xs ys : List ℕ) → AppendsPrefix a b xs → AppendsPrefix a b (xs ++ ys)
prefix_left a b xs ys f =
    let le : f.0 ≤ length (xs ++ ys) = omega (arith, length-append xs ys, f.1) in
    let short : f.0 ≤ length xs = f.1 in
    (f.0, le, rw (take-append-le f.0 xs ys short) f.2)

-- the first of two pieces, and a prefix of the second
pub prefix_right : (a b c : Option (List ℕ)) (xs ys : List ℕ) → Appends a b xs → AppendsPrefix b c ys → AppendsPrefix a c (xs ++ ys)
prefix_right a b c xs ys h f =
    let le : length xs + f.0 ≤ length (xs ++ ys) = omega (arith, length-append xs ys, f.1) in
    (length xs + f.0, le, rw (take-append-add xs ys f.0) (both_whole a b c xs (take f.0 ys) h f.2))

-- what holds anyway holds at an error
pub on_err : {T E : Type 0} (r : Result T E) (P : Type 0) → P → OnErr r P
on_err (Ok x) P p = tt
on_err (Err e) P p = p

-- pieces one after the other, and those of a prefix with one more
pub joined_append : (ps qs : List (Bor (List ℕ))) → joined (ps ++ qs) ≡ joined ps ++ joined qs
joined_append [] qs = refl
joined_append (p ∷ ps) qs = rw (joined_append ps qs) (sym (append_assoc p.now (joined ps) (joined qs)))

pub joined_more : (ps : List (Bor (List ℕ))) (n : ℕ) (d : Bor (List ℕ)) → n < length ps → joined (take (n + 1) ps) ≡ joined (take n ps) ++ (get_or ps n d).now
joined_more ps n d inside =
    let cut : take (n + 1) ps ≡ take n ps ++ get_or ps n d ∷ [] = rw (add-one n) (take-suc ps n d inside) in
    rw cut (joined_append (take n ps) (get_or ps n d ∷ []) ∙ ap (λ x. joined (take n ps) ++ x) (append-nil (get_or ps n d).now))

-- all pieces are a prefix of them and the rest
pub joined_split : (ps : List (Bor (List ℕ))) (n : ℕ) → joined ps ≡ joined (take n ps) ++ joined (drop n ps)
joined_split ps n = ap joined (sym (take-append-drop n ps)) ∙ joined_append (take n ps) (drop n ps)

module _ (a b c : Option (List ℕ)) (ps : List (Bor (List ℕ))) (n : ℕ) (d : Bor (List ℕ)) (inside : n < length ps) where
  -- one more piece
  pub one_more : Appends a b (joined (take n ps)) → Appends b c (get_or ps n d).now → Appends a c (joined (take (n + 1) ps))
  one_more h k = rw (joined_more ps n d inside) (both_whole a b c (joined (take n ps)) (get_or ps n d).now h k)

  -- a prefix of one more piece is a prefix of all
  pub one_prefix : Appends a b (joined (take n ps)) → AppendsPrefix b c (get_or ps n d).now → AppendsPrefix a c (joined ps)
  one_prefix h f =
      let g : AppendsPrefix a c (joined (take (n + 1) ps)) = rw (joined_more ps n d inside) (prefix_right a b c (joined (take n ps)) (get_or ps n d).now h f) in
      rw (joined_split ps (n + 1)) (prefix_left a c (joined (take (n + 1) ps)) (joined (drop (n + 1) ps)) g)

-- the same of a sink with its count
module _ (a b c : SinkState) (ps : List (Bor (List ℕ))) (n : ℕ) (d : Bor (List ℕ)) (inside : n < length ps) where
  pub pieces_more : SinkAppends a b (joined (take n ps)) → SinkAppends b c (get_or ps n d).now → SinkAppends a c (joined (take (n + 1) ps))
  pieces_more h k = record {
    bytes_are = one_more a.held b.held c.held ps n d inside h.bytes_are k.bytes_are;
    faults = k.faults ∙ h.faults;
  }

  pub pieces_fail : SinkAppends a b (joined (take n ps)) → SinkFails b c (get_or ps n d).now → SinkFails a c (joined ps)
  pieces_fail h f = record {
    prefix = one_prefix a.held b.held c.held ps n d inside h.bytes_are f.prefix;
    later = rw h.faults at f.later;
    rose = rw h.faults at f.rose;
  }

-- one text after the other
pub then_appends : (a b c : SinkState) (xs ys : List ℕ) → SinkAppends a b xs → SinkAppends b c ys → SinkAppends a c (xs ++ ys)
then_appends a b c xs ys h k = record {
  bytes_are = both_whole a.held b.held c.held xs ys h.bytes_are k.bytes_are;
  faults = k.faults ∙ h.faults;
}

-- a text, and a prefix of another
pub then_fails : (a b c : SinkState) (xs ys : List ℕ) → SinkAppends a b xs → SinkFails b c ys → SinkFails a c (xs ++ ys)
then_fails a b c xs ys h f = record {
  prefix = prefix_right a.held b.held c.held xs ys h.bytes_are f.prefix;
  later = rw h.faults at f.later;
  rose = rw h.faults at f.rose;
}

-- a prefix of the first of two texts
pub fails_first : (a b : SinkState) (xs ys : List ℕ) → SinkFails a b xs → SinkFails a b (xs ++ ys)
fails_first a b xs ys f = record {
  prefix = prefix_left a.held b.held xs ys f.prefix;
  later = f.later;
  rose = f.rose;
}

none_appended : (held : Option (List ℕ)) → Appends held held []
none_appended None = tt
none_appended (Some xs) = sym (append-nil xs)

-- nothing was written
pub appends_none : (a : SinkState) → SinkAppends a a []
appends_none a = record { bytes_are = none_appended a.held; faults = refl }

-- a `?` hands the fault on
pub fails_anyway : {T E : Type 0} (a b : SinkState) (text : List ℕ) (r : Result T E) (e : E) → IsErrAnd r (λ f. f ≡ e) → SinkFails a b text → WritesText a b text r
fails_anyway a b text (Ok x) e was h = absurd was
fails_anyway a b text (Err f) e was h = h
