-- The pieces of a message as its writer takes them.
use Rattle.std.specs.Prelude.{ℕ, List, map, decimal}
use Rattle.std.specs.Fmt.{signed_decimal}
use Rattle.hex.specs.Hex.{encode_lower}
use Rattle.glk_messages.specs.declared.pieces.Piece.{Piece}
use Rattle.glk_messages.specs.declared.pieces.Piece.TheVariants as piece

abbrev pub spelled_piece : Piece → List ℕ
spelled_piece (piece.Words words) = words.now
spelled_piece (piece.Name name) = name.now
spelled_piece (piece.Byte number) = decimal number
spelled_piece (piece.Count number) = decimal number
spelled_piece (piece.Number number) = decimal number
spelled_piece (piece.Signed number) = signed_decimal number.now
spelled_piece (piece.Fingerprint fingerprint) = encode_lower fingerprint

abbrev pub spelled_pieces : List Piece → List (List ℕ)
spelled_pieces pieces = map spelled_piece pieces
