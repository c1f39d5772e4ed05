-- Why bytes are no certificate: where reading stopped, and the words for it.
use Rattle.std.specs.Prelude.{◌≡◌, ◌≢◌, ◌⊎◌, ℕ, ◌++◌, ◌-◌, List, [], ◌∷◌, length, take, drop, codes, Option, Some, None, Err}
use Rattle.std.specs.Fmt.{decimal}
use Rattle.cert_note.specs.Reading.{certificate_of, IsFaultBlock, IsFaultPlace}
use Rattle.cert_note.specs.declared.refusals.CertError.{CertError}
use Rattle.cert_note.specs.declared.refusals.CertError.TheVariants as error
use Rattle.cert_note.specs.declared.refusals.CertRefusal.{CertRefusal}
use Rattle.explanations.specs.Address.{byte_text}
use Rattle.explanations.specs.declared.certificate.CertificateReason.{CertificateReason}
use Rattle.explanations.specs.declared.certificate.LastBytes.{LastBytes}
use Rattle.explanations.specs.declared.certificate.LastBytes.TheVariants as last

-- reading these bytes tells this error
abbrev pub IsTold : List ℕ → CertError → Type 0
IsTold bytes e = certificate_of bytes ≡ Err e

abbrev pub IsUntold : List ℕ → CertError → Type 0
IsUntold bytes e = ¬ (IsTold bytes e)

-- an error of the bytes, and not of want of memory
abbrev pub IsOfBytes : CertError → Type 0
IsOfBytes e = e ≢ error.NoMemory

-- the error is known once this number of bytes is read
abbrev pub IsPlace : List ℕ → CertError → ℕ → Type 0
IsPlace = IsFaultPlace

-- bytes as they are kept: the first four at most
abbrev pub bytes_told : List ℕ → LastBytes
bytes_told [] = last.None
bytes_told (a ∷ []) = last.One a
bytes_told (a ∷ b ∷ []) = last.Two a b
bytes_told (a ∷ b ∷ c ∷ []) = last.Three a b c
bytes_told (a ∷ b ∷ c ∷ d ∷ more) = last.Four a b c d

-- the last four of them at most
abbrev pub last_four : List ℕ → List ℕ
last_four bytes = drop (length bytes - 4) bytes

-- the last of the bytes in front of a place; none where there is no place
abbrev pub last_bytes : List ℕ → Option ℕ → LastBytes
last_bytes bytes None = last.None
last_bytes bytes (Some place) = bytes_told (last_four (take place bytes))

abbrev pub IfFound : (ℕ → Type 0) → Type 0 → Option ℕ → Type 0
IfFound Found NotFound None = NotFound
IfFound Found NotFound (Some n) = Found n

-- A reason's place: where reading stopped, or none where the bytes do not tell this error.
abbrev pub IsPlaced : List ℕ → CertError → CertificateReason → Type 0
IsPlaced bytes e told = IfFound (IsPlace bytes e) (IsUntold bytes e) told.place

pub record IsReason (bytes : List ℕ) (e : CertError) (told : CertificateReason) : Type 0 where
  pub fault : told.error ≡ e
  pub size : told.size ≡ length bytes
  pub place : (e ≡ error.NoMemory) ⊎ (IsPlaced bytes e told)
  pub last : told.last ≡ last_bytes bytes told.place
  pub block : IsTold bytes e → IsFaultBlock bytes told.block
  pub untold : IsUntold bytes e → told.block ≡ None

-- the reason by what reading kept
abbrev pub reason_of : List ℕ → CertRefusal → CertificateReason
reason_of bytes refusal = record {
  error = refusal.error;
  size = length bytes;
  place = refusal.place;
  last = last_bytes bytes refusal.place;
  block = refusal.block;
}

-- ---- the words

-- what is wanted where a fact is wrong: of the vector type, of a register, of vector registers
abbrev pub fact_wanted : List ℕ
fact_wanted = codes "  wanted: for the vtype 0 and 0, or 1 and a supported one\n"
    ++ (codes "  or: a register of 1 to 32 above the one before, an interval, "
    ++ (codes "an equality if it is of all numbers\n"
    ++ (codes "  or: a group behind the one before, its width, its count, zeros, "
    ++ codes "an interval not of all numbers\n")))

abbrev pub wanted : CertError → List ℕ
wanted error.Short = codes "  wanted: more bytes\n"
wanted error.Version = codes "  wanted: version 1 or 2, then 1, 2 or 3 for VLEN 128, 256 or 512\n"
wanted error.Parameter = codes "  wanted: a kind of 0 to 2, a mode (of a buffer 1 or 3, else 0), "
    ++ codes "zeros, and its numbers\n"
wanted error.BlockOrder = codes "  wanted: a multiple of 4 above the start of the block before\n"
wanted error.Fact = fact_wanted
wanted error.Equality = codes "  wanted: at most 8 terms, rising atoms without an equality\n"
wanted error.Budget = codes "  wanted: a register exactly where its factor is not 0\n"
wanted error.TrailingBytes = codes "  wanted: no bytes behind the last block\n"
wanted error.TooMany = codes "  wanted: at most 1024 blocks, or at most 32 facts of a kind, "
    ++ codes "or a zero behind these counts\n"
wanted error.Order = codes "  wanted: two registers without an equality, the greater one rising\n"
wanted error.NoMemory = []

abbrev pub place_line : Option ℕ → ℕ → List ℕ
place_line None size = []
place_line (Some place) size = codes "  reading stopped behind byte "
    ++ (decimal place ++ (codes " of " ++ (decimal size ++ codes "\n")))

-- the last bytes that were read, in the file's order
abbrev pub last_line : LastBytes → List ℕ
last_line last.None = []
last_line (last.One a) = codes "  the last byte read: 0x" ++ (byte_text a ++ codes "\n")
last_line (last.Two a b) = codes "  the last bytes read: 0x" ++ (byte_text a
    ++ (codes " 0x" ++ (byte_text b ++ codes "\n")))
last_line (last.Three a b c) = codes "  the last bytes read: 0x" ++ (byte_text a
    ++ (codes " 0x" ++ (byte_text b ++ (codes " 0x" ++ (byte_text c ++ codes "\n")))))
last_line (last.Four a b c d) = codes "  the last bytes read: 0x" ++ (byte_text a
    ++ (codes " 0x" ++ (byte_text b ++ (codes " 0x" ++ (byte_text c
    ++ (codes " 0x" ++ (byte_text d ++ codes "\n")))))))

abbrev pub block_line : Option ℕ → List ℕ
block_line None = []
block_line (Some block) = codes "  in block " ++ (decimal block ++ codes ", counted from 0\n")

-- the lines of a reason
abbrev pub certificate_text : CertificateReason → List ℕ
certificate_text told =
    place_line told.place told.size
    ++ (last_line told.last ++ (block_line told.block ++ wanted told.error))
