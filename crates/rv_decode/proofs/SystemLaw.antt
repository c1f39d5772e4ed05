-- The rows of opcode 73: each gives a word the instruction that it encodes.
use Rattle.std.proofs.Common.{◌≡◌, ℕ, ◌+◌, ◌<◌, ◌++◌, ◌&&◌, ◌==◌, false, refl, ap, arith}
use Rattle.std.specs.Prelude.{not}
use Rattle.rv_decode.specs.Bits.{bits}
use Rattle.rv_decode.specs.Encode.{encode}
use Rattle.rv_decode.specs.EncodeSystem.{encode_csr, f3_of_action, f3_of_source, number_of_source, number_of_csr, is_read_only, writes}
use Rattle.rv_decode.specs.System.{csr_form, writable, read_only, by_register, by_immediate, system_groups}
use Rattle.rv_decode.proofs.TableLaw.{RowsHold, GroupsHold, append_rows}
use Rattle.rv_decode.proofs.ScalarLaw.{Encodes}
use Rattle.rv_decode.proofs.Wholes.{below5, parts}
use Rattle.rv_decode.specs.Words.{CsrAction, CsrName, CsrSource, Scalar, Ecall, Write, Set, Clear, Vxsat, Vxrm, Vcsr, Vl, Vtype, Vlenb}

ecall_is : (word : ℕ) → bits 0 7 word ≡ 0x73 → bits 12 3 word ≡ 0 → bits 7 5 word ≡ 0 → bits 15 17 word ≡ 0 → Encodes word (Scalar Ecall)
unfolding encode bits
ecall_is word o f d s = ((λ w. omega arith), tt)

-- what the fields of a word say of a form
record Spells (word : ℕ) (action : CsrAction) (source : CsrSource) : Type 0 where
  at_opcode : bits 0 7 word ≡ 0x73
  at_f3 : bits 12 3 word ≡ f3_of_action action + f3_of_source source
  at_source : bits 15 5 word ≡ number_of_source source

csr_is : (word : ℕ) (action : CsrAction) (source : CsrSource) → Spells word action source → (name : CsrName) → bits 20 12 word ≡ number_of_csr name → is_read_only name && writes action (number_of_source source) ≡ false → Encodes word (csr_form action name source word)
unfolding encode_csr
csr_is word action source s name n allowed =
    let o = s.at_opcode in
    let f = s.at_f3 in
    let at_source = s.at_source in
    let below : number_of_source source < 32 = grind (arith, below5 15 word, s.at_source) in
    ((λ w. let h = parts word w in cc), (below5 7 word, below, allowed))

writable_rows : (word : ℕ) (action : CsrAction) (source : ℕ → CsrSource) → Spells word action (source word) → RowsHold (Encodes word) word (writable action source)
writable_rows word action source s = (
  (λ r. csr_is word action (source word) s Vxsat r.0 refl),
  (
    (λ r. csr_is word action (source word) s Vxrm r.0 refl),
    (
      (λ r. csr_is word action (source word) s Vcsr r.0 refl),
      tt,
    ),
  ),
)

-- with x0 or an immediate 0 the forms that set or clear don't write
set_reads : (number : ℕ) → number ≡ 0 → writes Set number ≡ false
set_reads number e = ap (λ n. not (n == 0)) e

read_only_rows : (word : ℕ) (action : CsrAction) (source : ℕ → CsrSource) → Spells word action (source word) → (bits 15 5 word ≡ 0 → writes action (number_of_source (source word)) ≡ false) → RowsHold (Encodes word) word (read_only action source)
read_only_rows word action source s reads = (
  (λ r. csr_is word action (source word) s Vl r.0 (reads r.1.0)),
  (
    (λ r. csr_is word action (source word) s Vtype r.0 (reads r.1.0)),
    (
      (λ r. csr_is word action (source word) s Vlenb r.0 (reads r.1.0)),
      tt,
    ),
  ),
)

change_rows : (word : ℕ) (action : CsrAction) (source : ℕ → CsrSource) → Spells word action (source word) → (bits 15 5 word ≡ 0 → writes action (number_of_source (source word)) ≡ false) → RowsHold (Encodes word) word (writable action source ++ read_only action source)
change_rows word action source s reads =
    append_rows (Encodes word) word (writable action source) (read_only action source) (writable_rows word action source s) (read_only_rows word action source s reads)

spells : (word : ℕ) → bits 0 7 word ≡ 0x73 → (action : CsrAction) (source : CsrSource) → bits 12 3 word ≡ f3_of_action action + f3_of_source source → bits 15 5 word ≡ number_of_source source → Spells word action source
spells word o action source f s = record { at_opcode = o; at_f3 = f; at_source = s }

pub system_rows : (word : ℕ) → bits 0 7 word ≡ 0x73 → GroupsHold (Encodes word) word system_groups
unfolding system_groups
system_rows word o = (
  (λ g. ((λ r. ecall_is word o g.0 r.0 r.1.0), tt)),
  (
    (λ g. writable_rows word Write by_register (spells word o Write (by_register word) g.0 refl)),
    (
      (λ g. change_rows word Set by_register (spells word o Set (by_register word) g.0 refl) (set_reads (bits 15 5 word))),
      (
        (λ g. change_rows word Clear by_register (spells word o Clear (by_register word) g.0 refl) (set_reads (bits 15 5 word))),
        (
          (λ g. writable_rows word Write by_immediate (spells word o Write (by_immediate word) g.0 refl)),
          (
            (λ g. change_rows word Set by_immediate (spells word o Set (by_immediate word) g.0 refl) (set_reads (bits 15 5 word))),
            (
              (λ g. change_rows word Clear by_immediate (spells word o Clear (by_immediate word) g.0 refl) (set_reads (bits 15 5 word))),
              tt,
            ),
          ),
        ),
      ),
    ),
  ),
)
