-- Texts by their pieces.
use Rattle.std.specs.Prelude.{ℕ, List, [], ◌∷◌, ◌++◌}
use Rattle.std.specs.Fmt.{decimal, signed_decimal}
use Rattle.std.specs.Int.{to_be_bytes, w32}
use Rattle.hex.specs.Hex.{encode_lower}
use Rattle.rv_listing.specs.declared.pieces.Piece.{Piece}
use Rattle.rv_listing.specs.declared.pieces.Piece.TheVariants.{Text, Word, Number, Signed}

-- an address or a word: eight digits of base 16
abbrev pub word_text : ℕ → List ℕ
word_text n = encode_lower (to_be_bytes w32 n)

abbrev pub piece_text : Piece → List ℕ
piece_text (Text text) = text.now
piece_text (Word n) = word_text n
piece_text (Number n) = decimal n
piece_text (Signed z) = signed_decimal z

abbrev pub pieces_text : List Piece → List ℕ
pieces_text [] = []
pieces_text (p ∷ ps) = piece_text p ++ pieces_text ps
