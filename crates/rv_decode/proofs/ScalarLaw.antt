-- The rows of the scalar words: each gives a word the instruction that it encodes.
use Rattle.std.proofs.Common.{◌≡◌, ℕ, ◌^◌, ◌<◌}
use Rattle.rv_decode.specs.Bits.{bits}
use Rattle.rv_decode.specs.Encode.{encode, f3_of_condition, f3_of_load, f3_of_store, f3_of_immediate, codes_of_shift, codes_of_register}
use Rattle.rv_decode.specs.Encodings.{IsWordOf, FieldsFit}
use Rattle.rv_decode.specs.Scalar.{lui, auipc, jal, jalr, branch, load, store, immediate, shift, register}
use Rattle.rv_decode.specs.Scalar.{lui_groups, auipc_groups, jal_groups, jalr_groups, branch_groups, load_groups, store_groups, immediate_groups, base_rows, multiply_rows, register_groups, fence_groups}
use Rattle.rv_decode.proofs.TableLaw.{GroupsHold}
use Rattle.rv_decode.proofs.Wholes.{below5, whole_r, whole_i, whole_s, whole_b, whole_u, whole_j, fits_i, fits_s, fits_b, fits_u, fits_j}
use Rattle.rv_decode.specs.Words.{Condition, ImmediateOp, Insn, LoadKind, RegisterOp, ShiftOp, Width, Eq, Ne, Lt, Ge, Ltu, Geu, Byte, Half}
use Rattle.rv_decode.specs.Words.{Word, ByteUnsigned, HalfUnsigned, W8, W16, W32, Addi, Slti, Sltiu, Xori, Ori, Andi, Slli, Srli, Srai, Add}
use Rattle.rv_decode.specs.Words.{Sub, Sll, Slt, Sltu, Xor, Srl, Sra, Or, And, Mul, Mulh, Mulhsu, Mulhu, Div, Divu, Rem, Remu}

-- what the laws say of a word and its meaning: that it is the encoding holds of words alone, the rest of any number
abbrev pub Encodes : ℕ → Insn → Type 0
Encodes word insn = (word < 2 ^ 32 → IsWordOf insn word) × FieldsFit insn

-- each format

lui_is : (word : ℕ) → bits 0 7 word ≡ 0x37 → Encodes word (lui word)
unfolding encode
lui_is word o = ((λ w. let h = whole_u word w in cc), (below5 7 word, fits_u word))

auipc_is : (word : ℕ) → bits 0 7 word ≡ 0x17 → Encodes word (auipc word)
unfolding encode
auipc_is word o = ((λ w. let h = whole_u word w in cc), (below5 7 word, fits_u word))

jal_is : (word : ℕ) → bits 0 7 word ≡ 0x6f → Encodes word (jal word)
unfolding encode
jal_is word o = let f = fits_j word in ((λ w. let h = whole_j word w in cc), (below5 7 word, f.0, f.1))

jalr_is : (word : ℕ) → bits 0 7 word ≡ 0x67 → bits 12 3 word ≡ 0 → Encodes word (jalr word)
unfolding encode
jalr_is word o f = ((λ w. let h = whole_i word w in cc), (below5 7 word, below5 15 word, fits_i word))

branch_is : (word : ℕ) → bits 0 7 word ≡ 0x63 → (op : Condition) → bits 12 3 word ≡ f3_of_condition op → Encodes word (branch op word)
unfolding encode
branch_is word o op f =
    let fits = fits_b word in ((λ w. let h = whole_b word w in cc), (below5 15 word, below5 20 word, fits.0, fits.1))

load_is : (word : ℕ) → bits 0 7 word ≡ 0x03 → (op : LoadKind) → bits 12 3 word ≡ f3_of_load op → Encodes word (load op word)
unfolding encode
load_is word o op f = ((λ w. let h = whole_i word w in cc), (below5 7 word, below5 15 word, fits_i word))

store_is : (word : ℕ) → bits 0 7 word ≡ 0x23 → (op : Width) → bits 12 3 word ≡ f3_of_store op → Encodes word (store op word)
unfolding encode
store_is word o op f = ((λ w. let h = whole_s word w in cc), (below5 15 word, below5 20 word, fits_s word))

immediate_is : (word : ℕ) → bits 0 7 word ≡ 0x13 → (op : ImmediateOp) → bits 12 3 word ≡ f3_of_immediate op → Encodes word (immediate op word)
unfolding encode
immediate_is word o op f = ((λ w. let h = whole_i word w in cc), (below5 7 word, below5 15 word, fits_i word))

shift_is : (word : ℕ) → bits 0 7 word ≡ 0x13 → (op : ShiftOp) → bits 12 3 word ≡ (codes_of_shift op).0 → bits 25 7 word ≡ (codes_of_shift op).1 → Encodes word (shift op word)
unfolding encode
shift_is word o op f g = ((λ w. let h = whole_r word w in cc), (below5 7 word, below5 15 word, below5 20 word))

register_is : (word : ℕ) → bits 0 7 word ≡ 0x33 → (op : RegisterOp) → bits 12 3 word ≡ (codes_of_register op).0 → bits 25 7 word ≡ (codes_of_register op).1 → Encodes word (register op word)
unfolding encode
register_is word o op f g = ((λ w. let h = whole_r word w in cc), (below5 7 word, below5 15 word, below5 20 word))

-- each opcode

pub lui_rows : (word : ℕ) → bits 0 7 word ≡ 0x37 → GroupsHold (Encodes word) word lui_groups
unfolding lui_groups
lui_rows word o = ((λ g. ((λ r. lui_is word o), tt)), tt)

pub auipc_rows : (word : ℕ) → bits 0 7 word ≡ 0x17 → GroupsHold (Encodes word) word auipc_groups
unfolding auipc_groups
auipc_rows word o = ((λ g. ((λ r. auipc_is word o), tt)), tt)

pub jal_rows : (word : ℕ) → bits 0 7 word ≡ 0x6f → GroupsHold (Encodes word) word jal_groups
unfolding jal_groups
jal_rows word o = ((λ g. ((λ r. jal_is word o), tt)), tt)

pub jalr_rows : (word : ℕ) → bits 0 7 word ≡ 0x67 → GroupsHold (Encodes word) word jalr_groups
unfolding jalr_groups
jalr_rows word o = ((λ g. ((λ r. jalr_is word o g.0), tt)), tt)

pub branch_rows : (word : ℕ) → bits 0 7 word ≡ 0x63 → GroupsHold (Encodes word) word branch_groups
unfolding branch_groups
branch_rows word o = (
  (λ g. ((λ r. branch_is word o Eq g.0), tt)),
  (
    (λ g. ((λ r. branch_is word o Ne g.0), tt)),
    (
      (λ g. ((λ r. branch_is word o Lt g.0), tt)),
      (
        (λ g. ((λ r. branch_is word o Ge g.0), tt)),
        (
          (λ g. ((λ r. branch_is word o Ltu g.0), tt)),
          (
            (λ g. ((λ r. branch_is word o Geu g.0), tt)),
            tt,
          ),
        ),
      ),
    ),
  ),
)

pub load_rows : (word : ℕ) → bits 0 7 word ≡ 0x03 → GroupsHold (Encodes word) word load_groups
unfolding load_groups
load_rows word o = (
  (λ g. ((λ r. load_is word o Byte g.0), tt)),
  (
    (λ g. ((λ r. load_is word o Half g.0), tt)),
    (
      (λ g. ((λ r. load_is word o Word g.0), tt)),
      (
        (λ g. ((λ r. load_is word o ByteUnsigned g.0), tt)),
        (
          (λ g. ((λ r. load_is word o HalfUnsigned g.0), tt)),
          tt,
        ),
      ),
    ),
  ),
)

pub store_rows : (word : ℕ) → bits 0 7 word ≡ 0x23 → GroupsHold (Encodes word) word store_groups
unfolding store_groups
store_rows word o = (
  (λ g. ((λ r. store_is word o W8 g.0), tt)),
  (
    (λ g. ((λ r. store_is word o W16 g.0), tt)),
    (
      (λ g. ((λ r. store_is word o W32 g.0), tt)),
      tt,
    ),
  ),
)

pub immediate_rows : (word : ℕ) → bits 0 7 word ≡ 0x13 → GroupsHold (Encodes word) word immediate_groups
unfolding immediate_groups
immediate_rows word o = (
  (λ g. ((λ r. immediate_is word o Addi g.0), tt)),
  (
    (λ g. ((λ r. shift_is word o Slli g.0 r.0), tt)),
    (
      (λ g. ((λ r. immediate_is word o Slti g.0), tt)),
      (
        (λ g. ((λ r. immediate_is word o Sltiu g.0), tt)),
        (
          (λ g. ((λ r. immediate_is word o Xori g.0), tt)),
          (
            (λ g. ((λ r. shift_is word o Srli g.0 r.0), ((λ r. shift_is word o Srai g.0 r.0), tt))),
            (
              (λ g. ((λ r. immediate_is word o Ori g.0), tt)),
              (
                (λ g. ((λ r. immediate_is word o Andi g.0), tt)),
                tt,
              ),
            ),
          ),
        ),
      ),
    ),
  ),
)

pub register_rows : (word : ℕ) → bits 0 7 word ≡ 0x33 → GroupsHold (Encodes word) word register_groups
unfolding register_groups base_rows multiply_rows
register_rows word o = (
  (λ g. ((
    (λ r. register_is word o Add r.0 g.0),
    (
      (λ r. register_is word o Sll r.0 g.0),
      (
        (λ r. register_is word o Slt r.0 g.0),
        (
          (λ r. register_is word o Sltu r.0 g.0),
          (
            (λ r. register_is word o Xor r.0 g.0),
            (
              (λ r. register_is word o Srl r.0 g.0),
              (
                (λ r. register_is word o Or r.0 g.0),
                (
                  (λ r. register_is word o And r.0 g.0),
                  tt,
                ),
              ),
            ),
          ),
        ),
      ),
    ),
  ))),
  (
    (λ g. ((
      (λ r. register_is word o Sub r.0 g.0),
      (
        (λ r. register_is word o Sra r.0 g.0),
        tt,
      ),
    ))),
    (
      (λ g. ((
        (λ r. register_is word o Mul r.0 g.0),
        (
          (λ r. register_is word o Mulh r.0 g.0),
          (
            (λ r. register_is word o Mulhsu r.0 g.0),
            (
              (λ r. register_is word o Mulhu r.0 g.0),
              (
                (λ r. register_is word o Div r.0 g.0),
                (
                  (λ r. register_is word o Divu r.0 g.0),
                  (
                    (λ r. register_is word o Rem r.0 g.0),
                    (
                      (λ r. register_is word o Remu r.0 g.0),
                      tt,
                    ),
                  ),
                ),
              ),
            ),
          ),
        ),
      ))),
      tt,
    ),
  ),
)

pub fence_rows : (word : ℕ) → bits 0 7 word ≡ 0x0f → GroupsHold (Encodes word) word fence_groups
unfolding fence_groups
fence_rows word o = ((λ g. ((λ r. ((λ w. (o, g.0)), tt)), tt)), tt)
