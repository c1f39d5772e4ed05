-- The text of a word: the standard's mnemonic with its suffix, and the operand fields as `
-- name=value`, in the order rd, vd, vs3, rs1, rs2, vs2, vs1, avl, imm, csr, to, vm.
use Rattle.std.specs.Prelude.{ℕ, List, Option, Some, None, codes}
use Rattle.rv_decode.specs.Decode.{meaning_of}
use Rattle.rv_decode.specs.declared.instructions.Insn.{Insn}
use Rattle.rv_listing.specs.Accesses.{access_text}
use Rattle.rv_listing.specs.Arithmetic.{arithmetic_text}
use Rattle.rv_listing.specs.Scalar.{csr_text, scalar_text}
use Rattle.rv_listing.specs.Vector.{mask_text, move_text, permutation_text, reduction_text, vset_text}

unfoldable pub insn_text : ℕ → Insn → List ℕ
insn_text address (Insn.Scalar i) = scalar_text address i
insn_text address (Insn.Csr i) = csr_text i
insn_text address (Insn.VSet i) = vset_text i
insn_text address (Insn.VArith i) = arithmetic_text i
insn_text address (Insn.VMask i) = mask_text i
insn_text address (Insn.VPerm i) = permutation_text i
insn_text address (Insn.VReduce i) = reduction_text i
insn_text address (Insn.VMem i) = access_text i
insn_text address (Insn.VMove i) = move_text i

-- a word without meaning is `illegal`
unfoldable pub meaning_text : ℕ → Option Insn → List ℕ
meaning_text address (Some i) = insn_text address i
meaning_text address None = codes "illegal"

-- the text of a word that lies at an address
unfoldable pub listing_text : ℕ → ℕ → List ℕ
listing_text address word = meaning_text address (meaning_of word)
