-- What commands tell, of plain values.
use Rattle.std.specs.Prelude.{ℕ, zero, suc, ◌/◌, ◌%◌, ◌==◌, Bool, List, [], ◌∷◌, ◌++◌, slice_index, codes, Option, Some, None, if◌then◌else◌}
use Rattle.std.specs.Fmt.{decimal}
use Rattle.hex.specs.Hex.{encode_lower}
use Rattle.rv_listing.specs.Listing.{listing_text}
use Rattle.rv_listing.specs.Pieces.{word_text}
use Rattle.machine.specs.declared.registers.Registers.{Registers}

-- the first n of a row of texts, one after the other
unfoldable pub texts : (ℕ → List ℕ) → ℕ → List ℕ
texts text zero = []
texts text (suc n) = texts text n ++ text n

-- a breakpoint that is set, and one that is gone
unfoldable pub break_text : ℕ → List ℕ
break_text address = codes "break " ++ (word_text address ++ codes "\n")

unfoldable pub gone_text : ℕ → List ℕ
gone_text address = codes "gone " ++ (word_text address ++ codes "\n")

-- where a run stands after `steps` steps
unfoldable pub stop_text : Bool → ℕ → ℕ → List ℕ
stop_text ended pc steps =
    if ended then codes "ended step " ++ (decimal steps ++ codes "\n")
    else codes "at " ++ (word_text pc ++ (codes " step " ++ (decimal steps ++ codes "\n")))

-- an integer register, with two digits of its number; four stand in a line
unfoldable pub register_text : ℕ → ℕ → List ℕ
register_text number value =
    codes "x" ++ (decimal (number / 10) ++ (decimal (number % 10) ++ (codes "=" ++ (word_text value
    ++ (if number % 4 == 3 then codes "\n" else codes " ")))))

unfoldable pub registers_text : List ℕ → List ℕ
registers_text x = texts (λ number. register_text number (slice_index x number)) 32

-- the bytes of a vector register, the first one first
unfoldable pub vector_text : ℕ → List ℕ → List ℕ
vector_text number bytes =
    codes "v" ++ (decimal (number / 10) ++ (decimal (number % 10) ++ (codes "="
    ++ (encode_lower bytes ++ codes "\n"))))

-- pc, and what the vector extension keeps beside its registers
unfoldable pub csrs_text : Registers → ℕ → List ℕ
csrs_text r vlenb =
    codes "pc=" ++ (word_text r.pc
    ++ (codes " vl=" ++ (decimal r.vl ++ (codes " vtype=" ++ (word_text r.vtype
    ++ (codes " vxrm=" ++ (decimal r.vxrm ++ (codes " vxsat=" ++ (decimal r.vxsat
    ++ (codes " vlenb=" ++ (decimal vlenb ++ codes "\n")))))))))))

-- a byte that is there
unfoldable pub byte_text : Option ℕ → List ℕ
byte_text None = []
byte_text (Some byte) = encode_lower (byte ∷ [])

-- a word that is there: its address, the word, and what it means
unfoldable pub line_text : ℕ → Option ℕ → List ℕ
line_text address None = []
line_text address (Some word) =
    word_text address ++ (codes " " ++ (word_text word
    ++ (codes " " ++ (listing_text address word ++ codes "\n"))))
