-- Texts in a sink, one after the other.
use Rattle.std.proofs.Common.{◌≡◌, ◌<◌, ◌+◌, ◌++◌, ℕ, List, [], ◌∷◌, length, take, drop, get_or, codes, Result, Ok, Err, OnOk, OnErr, inl, inr, refl, sym, ap, subst, ◌∙◌, add-one, append_assoc}
use Rattle.std.specs.Result.{IsErrAnd}
use Rattle.std.specs.Prelude.{◌==◌, true, false}
use Rattle.std.specs.List.{concat}
use Rattle.std.proofs.Math.Seq.{take-suc}
use Rattle.std.proofs.lemmas.List.{take-append-drop, append-nil}
use Rattle.glk_io.specs.Changes.{SinkState, SinkAppends, SinkFails, WritesText}
use Rattle.glk_io.proofs.SinkLemmas.{then_appends, then_fails, fails_first}
use Rattle.glk_cause.specs.declared.cause.Cause.{Cause}
use Rattle.glk_messages.specs.Messages.{refusal_text, undefined_text}
use Rattle.glk_messages.specs.Lines.{line_of, ReportsLine}
use Rattle.glk_messages.specs.Pieces.{spelled_piece, spelled_pieces}
use Rattle.glk_messages.specs.declared.pieces.Piece.{Piece}

abbrev spelled : List Piece → List ℕ
spelled ps = concat (spelled_pieces ps)

spelled_append : (ps qs : List Piece) → spelled (ps ++ qs) ≡ spelled ps ++ spelled qs
spelled_append [] qs = refl
spelled_append (p ∷ ps) qs = rw (spelled_append ps qs) (sym (append_assoc (spelled_piece p) (spelled ps) (spelled qs)))

pub spelled_more : (ps : List Piece) (n : ℕ) (d : Piece) → n < length ps → spelled (take (n + 1) ps) ≡ spelled (take n ps) ++ spelled_piece (get_or ps n d)
spelled_more ps n d inside =
    let cut : take (n + 1) ps ≡ take n ps ++ get_or ps n d ∷ [] = rw (add-one n) (take-suc ps n d inside) in
    rw cut (spelled_append (take n ps) (get_or ps n d ∷ []) ∙ ap (λ x. spelled (take n ps) ++ x) (append-nil (spelled_piece (get_or ps n d))))

module _ (a b c : SinkState) (ps : List Piece) (n : ℕ) (d : Piece) (is : d ≡ get_or ps n d) (inside : n < length ps) where
  -- one more piece
  pub each_more : SinkAppends a b (spelled (take n ps)) → SinkAppends b c (spelled_piece d) → SinkAppends a c (spelled (take (n + 1) ps))
  each_more h k =
      let P : Piece → Type 0 = λ p. SinkAppends b c (spelled_piece p) in
      rw (spelled_more ps n d inside) (then_appends a b c (spelled (take n ps)) (spelled_piece (get_or ps n d)) h (subst P is k))

  -- a prefix of one more piece is a prefix of all
  pub each_fails : SinkAppends a b (spelled (take n ps)) → SinkFails b c (spelled_piece d) → SinkFails a c (spelled ps)
  each_fails h f =
      let P : Piece → Type 0 = λ p. SinkFails b c (spelled_piece p) in
      let split : spelled ps ≡ spelled (take (n + 1) ps) ++ spelled (drop (n + 1) ps) =
      ap spelled (sym (take-append-drop (n + 1) ps)) ∙ spelled_append (take (n + 1) ps) (drop (n + 1) ps) in
      let k : SinkFails a c (spelled (take (n + 1) ps)) =
      rw (spelled_more ps n d inside) (then_fails a b c (spelled (take n ps)) (spelled_piece (get_or ps n d)) h (subst P is f)) in
      rw split (fails_first a c (spelled (take (n + 1) ps)) (spelled (drop (n + 1) ps)) k)

-- The line: its name, its text, its end.

pub name_fails : (a b : SinkState) (text : List (List ℕ)) → SinkFails a b (codes "golink: ") → SinkFails a b (line_of text)
unfolding line_of
name_fails a b text f = fails_first a b (codes "golink: ") (concat text ++ codes "\n") f

pub text_fails : (a b c : SinkState) (text : List (List ℕ)) → SinkAppends a b (codes "golink: ") → SinkFails b c (concat text) → SinkFails a c (line_of text)
unfolding line_of
text_fails a b c text h f = then_fails a b c (codes "golink: ") (concat text ++ codes "\n") h (fails_first b c (concat text) (codes "\n") f)

pub line_ends : {T E : Type 0} (a b c d : SinkState) (text : List (List ℕ)) (r : Result T E) → SinkAppends a b (codes "golink: ") → SinkAppends b c (concat text)
    → OnOk r (SinkAppends c d (codes "\n")) → OnErr r (SinkFails c d (codes "\n")) → WritesText a d (line_of text) r
unfolding line_of
line_ends a b c d text (Ok x) h k whole prefix = then_appends a b d (codes "golink: ") (concat text ++ codes "\n") h (then_appends b c d (concat text) (codes "\n") k whole)
line_ends a b c d text (Err e) h k whole prefix = then_fails a b d (codes "golink: ") (concat text ++ codes "\n") h (then_fails b c d (concat text) (codes "\n") k prefix)

pub reported : {T E : Type 0} (a b : SinkState) (line : List ℕ) (r : Result T E) → WritesText a b line r → ReportsLine a b line
unfolding ReportsLine
reported a b line (Ok x) h = inl h
reported a b line (Err e) h = inr h

-- the text of a symbol without a definition, by whether the symbol that refers to it has a name
pub without_from : (a b : SinkState) (from name : List ℕ) → (length from == 0) ≡ true → ReportsLine a b (line_of (codes "undefined: " ∷ name ∷ []))
    → ReportsLine a b (line_of (undefined_text from name))
unfolding undefined_text
without_from a b from name e h = rw e h

pub with_from : (a b : SinkState) (from name : List ℕ) → (length from == 0) ≡ false → ReportsLine a b (line_of (from ∷ codes ": undefined: " ∷ name ∷ []))
    → ReportsLine a b (line_of (undefined_text from name))
unfolding undefined_text
with_from a b from name e h = rw e h

-- a refusal that is seen as this one has its text
pub seen_as : (a b : SinkState) (seen named : Cause) → seen ≡ named → ReportsLine a b (line_of (refusal_text named)) → ReportsLine a b (line_of (refusal_text seen))
seen_as a b seen named is h = let P : Cause → Type 0 = λ r. ReportsLine a b (line_of (refusal_text r)) in subst P (sym is) h
