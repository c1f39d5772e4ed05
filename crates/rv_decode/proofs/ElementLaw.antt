-- The operations on masks, permutations, reductions and moves: each gives a word the instruction that it encodes.
use Rattle.std.proofs.Common.{◌≡◌, ℕ, ◌^◌, ◌<◌, pos, [], ◌∷◌, ◌++◌, Bool, true, false, refl, ap, ◌∙◌}
use Rattle.rv_decode.specs.Bits.{bits, signed}
use Rattle.rv_decode.specs.EncodeVector.{OPI, OPM, Code, code, vm_of, encode_v}
use Rattle.rv_decode.specs.EncodeElements.{code_of_logic, code_of_to_scalar, code_of_from_scalar, code_of_set_mask, selector_of_first, code_of_slide_one_up, code_of_slide_one_down, code_of_gather, code_of_gather16, code_of_compress, code_of_fold, code_of_widen_sum, code_of_whole_move}
use Rattle.rv_decode.specs.EncodeElements.{encode_mask, encode_perm, encode_reduce, encode_move}
use Rattle.rv_decode.specs.EncodeAccess.{nf_of_count}
use Rattle.rv_decode.specs.Operations.{Form, V, X, I, U, operand, select, vm, vs1, vs2, is_masked}
use Rattle.rv_decode.specs.ElementWords.{logic, count, first, set_first, iota, index, slide_up, slide_down, by_register, by_immediate, slide_one_up, slide_one_down, gather, gather16, compress, fold, widen_sum, to_scalar, from_scalar, whole}
use Rattle.rv_decode.specs.ElementWords.{low_opi_elements, high_opi_elements, opm_elements, widen_sum_operations, fold_operations, element_operations, mask_operations, logic_operations, to_scalar_rows, set_mask_rows, whole_rows}
use Rattle.rv_decode.proofs.TableLaw.{HasFields, Every, append_every}
use Rattle.rv_decode.proofs.ScalarLaw.{Encodes}
use Rattle.rv_decode.proofs.OperationLaw.{Spells, word_with_mask, word_with_vm, OperationHolds}
use Rattle.rv_decode.proofs.Wholes.{below5}
use Rattle.rv_decode.specs.Words.{Count, FirstOp, FoldOp, LogicOp, Source, Before, Only, Including, One, Two, Four, Eight}

-- what stands in the place of vs1 selects among the operations of a funct6
selected : (word : ℕ) (c : Code) (n : ℕ) → Spells word c (operand V word) → bits 15 5 word ≡ n → word < 2 ^ 32 → word ≡ encode_v c (bits 7 5 word) (vm_of (is_masked word)) (bits 20 5 word) (Source.Vector n)
selected word c n s e w =
    word_with_mask word c (operand V word) s w ∙
    ap (λ m. encode_v c (bits 7 5 word) (vm_of (is_masked word)) (bits 20 5 word) (Source.Vector m)) e

-- masks

logic_is : (word : ℕ) (op : LogicOp) → Spells word (code_of_logic op) (operand V word) → HasFields (vm 1 ∷ []) word → Encodes word (logic op word)
unfolding encode_mask
logic_is word op s m =
    (word_with_vm word (code_of_logic op) (operand V word) 1 s m.0, (below5 7 word, below5 20 word, below5 15 word))

count_is : (word : ℕ) → Spells word code_of_to_scalar (operand V word) → HasFields (vs1 0x10 ∷ []) word → Encodes word (count word)
unfolding encode_mask
count_is word s m = (selected word code_of_to_scalar 0x10 s m.0, (below5 7 word, below5 20 word))

first_is : (word : ℕ) → Spells word code_of_to_scalar (operand V word) → HasFields (vs1 0x11 ∷ []) word → Encodes word (first word)
unfolding encode_mask
first_is word s m = (selected word code_of_to_scalar 0x11 s m.0, (below5 7 word, below5 20 word))

set_first_is : (word : ℕ) (op : FirstOp) → Spells word code_of_set_mask (operand V word) → HasFields (vs1 (selector_of_first op) ∷ []) word → Encodes word (set_first op word)
unfolding encode_mask
set_first_is word op s m = (selected word code_of_set_mask (selector_of_first op) s m.0, (below5 7 word, below5 20 word))

iota_is : (word : ℕ) → Spells word code_of_set_mask (operand V word) → HasFields (vs1 0x10 ∷ []) word → Encodes word (iota word)
unfolding encode_mask
iota_is word s m = (selected word code_of_set_mask 0x10 s m.0, (below5 7 word, below5 20 word))

index_is : (word : ℕ) → Spells word code_of_set_mask (operand V word) → HasFields (vs1 0x11 ∷ vs2 0 ∷ []) word → Encodes word (index word)
unfolding encode_mask
index_is word s m = (
  (λ w. selected word code_of_set_mask 0x11 s m.0 w ∙
      ap (λ n. encode_v code_of_set_mask (bits 7 5 word) (vm_of (is_masked word)) n (Source.Vector 0x11)) m.1.0),
  below5 7 word,
)

-- permutations

slide_up_by_register : (word : ℕ) → Spells word (code OPI 0x0e (X ∷ [])) (operand X word) → HasFields [] word → Encodes word (by_register slide_up word)
unfolding encode_perm encode_v
slide_up_by_register word s none =
    (word_with_mask word (code OPI 0x0e (X ∷ [])) (operand X word) s, (below5 7 word, below5 20 word, below5 15 word))

slide_up_by_immediate : (word : ℕ) → Spells word (code OPI 0x0e (U ∷ [])) (operand U word) → HasFields [] word → Encodes word (by_immediate slide_up word)
unfolding encode_perm encode_v
slide_up_by_immediate word s none =
    (word_with_mask word (code OPI 0x0e (U ∷ [])) (operand U word) s, (below5 7 word, below5 20 word, below5 15 word))

slide_down_by_register : (word : ℕ) → Spells word (code OPI 0x0f (X ∷ [])) (operand X word) → HasFields [] word → Encodes word (by_register slide_down word)
unfolding encode_perm encode_v
slide_down_by_register word s none =
    (word_with_mask word (code OPI 0x0f (X ∷ [])) (operand X word) s, (below5 7 word, below5 20 word, below5 15 word))

slide_down_by_immediate : (word : ℕ) → Spells word (code OPI 0x0f (U ∷ [])) (operand U word) → HasFields [] word → Encodes word (by_immediate slide_down word)
unfolding encode_perm encode_v
slide_down_by_immediate word s none =
    (word_with_mask word (code OPI 0x0f (U ∷ [])) (operand U word) s, (below5 7 word, below5 20 word, below5 15 word))

slide_one_up_is : (word : ℕ) → Spells word code_of_slide_one_up (operand X word) → HasFields [] word → Encodes word (slide_one_up word)
unfolding encode_perm
slide_one_up_is word s none =
    (word_with_mask word code_of_slide_one_up (operand X word) s, (below5 7 word, below5 20 word, below5 15 word))

slide_one_down_is : (word : ℕ) → Spells word code_of_slide_one_down (operand X word) → HasFields [] word → Encodes word (slide_one_down word)
unfolding encode_perm
slide_one_down_is word s none =
    (word_with_mask word code_of_slide_one_down (operand X word) s, (below5 7 word, below5 20 word, below5 15 word))

gather_is : (word : ℕ) (form : Form) → Spells word code_of_gather (operand form word) → HasFields [] word → Encodes word (gather (operand form word) word)
unfolding encode_perm
gather_is word form s none =
    (word_with_mask word code_of_gather (operand form word) s, (below5 7 word, below5 20 word, s.operand_fits))

gather16_is : (word : ℕ) → Spells word code_of_gather16 (operand V word) → HasFields [] word → Encodes word (gather16 word)
unfolding encode_perm
gather16_is word s none =
    (word_with_mask word code_of_gather16 (operand V word) s, (below5 7 word, below5 20 word, below5 15 word))

compress_is : (word : ℕ) → Spells word code_of_compress (operand V word) → HasFields (vm 1 ∷ []) word → Encodes word (compress word)
unfolding encode_perm
compress_is word s m =
    (word_with_vm word code_of_compress (operand V word) 1 s m.0, (below5 7 word, below5 20 word, below5 15 word))

-- reductions

fold_is : (word : ℕ) (op : FoldOp) → Spells word (code_of_fold op) (operand V word) → HasFields [] word → Encodes word (fold op word)
unfolding encode_reduce
fold_is word op s none =
    (word_with_mask word (code_of_fold op) (operand V word) s, (below5 7 word, below5 20 word, below5 15 word))

widen_sum_is : (word : ℕ) (signed : Bool) → Spells word (code_of_widen_sum signed) (operand V word) → HasFields [] word → Encodes word (widen_sum signed word)
unfolding encode_reduce
widen_sum_is word signed s none =
    (word_with_mask word (code_of_widen_sum signed) (operand V word) s, (below5 7 word, below5 20 word, below5 15 word))

-- moves

to_scalar_is : (word : ℕ) → Spells word code_of_to_scalar (operand V word) → HasFields (vs1 0 ∷ vm 1 ∷ []) word → Encodes word (to_scalar word)
unfolding encode_move
to_scalar_is word s m = (
  (λ w. word_with_vm word code_of_to_scalar (operand V word) 1 s m.1.0 w ∙
      ap (λ n. encode_v code_of_to_scalar (bits 7 5 word) 1 (bits 20 5 word) (Source.Vector n)) m.0),
  (below5 7 word, below5 20 word),
)

from_scalar_is : (word : ℕ) → Spells word code_of_from_scalar (operand X word) → HasFields (vm 1 ∷ vs2 0 ∷ []) word → Encodes word (from_scalar word)
unfolding encode_move
from_scalar_is word s m = (
  (λ w. word_with_vm word code_of_from_scalar (operand X word) 1 s m.0 w ∙
      ap (λ n. encode_v code_of_from_scalar (bits 7 5 word) 1 n (operand X word)) m.1.0),
  (below5 7 word, below5 15 word),
)

signed_is : (n : Count) → signed 16 (nf_of_count n) ≡ pos (nf_of_count n)
unfolding signed
signed_is One = refl
signed_is Two = refl
signed_is Four = refl
signed_is Eight = refl

whole_is : (word : ℕ) (n : Count) → Spells word code_of_whole_move (operand I word) → HasFields (vs1 (nf_of_count n) ∷ vm 1 ∷ []) word → Encodes word (whole n word)
unfolding encode_move
whole_is word n s m = (
  (λ w. word_with_vm word code_of_whole_move (operand I word) 1 s m.1.0 w ∙
      ap (λ z. encode_v code_of_whole_move (bits 7 5 word) 1 (bits 20 5 word) (Source.Immediate z)) (ap (signed 16) m.0 ∙ signed_is n)),
  (below5 7 word, below5 20 word),
)

-- the operations

pub low_opi_elements_hold : (word : ℕ) → Every (OperationHolds word OPI) low_opi_elements
low_opi_elements_hold word = (
  (gather_is word V, (gather_is word X, (gather_is word U, tt))),
  (
    (gather16_is word, tt),
    (
      (slide_up_by_register word, tt),
      (
        (slide_up_by_immediate word, tt),
        (
          (slide_down_by_register word, tt),
          (
            (slide_down_by_immediate word, tt),
            tt,
          ),
        ),
      ),
    ),
  ),
)

whole_operations_hold : (word : ℕ) → Every (OperationHolds word OPI) (select 0x27 I whole_rows)
unfolding whole_rows
whole_operations_hold word = (
  (whole_is word One, tt),
  (
    (whole_is word Two, tt),
    (
      (whole_is word Four, tt),
      (
        (whole_is word Eight, tt),
        tt,
      ),
    ),
  ),
)

widen_sum_operations_hold : (word : ℕ) → Every (OperationHolds word OPI) widen_sum_operations
widen_sum_operations_hold word = (
  (widen_sum_is word false, tt),
  (
    (widen_sum_is word true, tt),
    tt,
  ),
)

fold_operations_hold : (word : ℕ) → Every (OperationHolds word OPM) fold_operations
fold_operations_hold word = (
  (fold_is word FoldOp.Sum, tt),
  (
    (fold_is word FoldOp.And, tt),
    (
      (fold_is word FoldOp.Or, tt),
      (
        (fold_is word FoldOp.Xor, tt),
        (
          (fold_is word FoldOp.Minu, tt),
          (
            (fold_is word FoldOp.Min, tt),
            (
              (fold_is word FoldOp.Maxu, tt),
              (
                (fold_is word FoldOp.Max, tt),
                tt,
              ),
            ),
          ),
        ),
      ),
    ),
  ),
)

element_operations_hold : (word : ℕ) → Every (OperationHolds word OPM) element_operations
element_operations_hold word = (
  (slide_one_up_is word, tt),
  (
    (slide_one_down_is word, tt),
    (
      (from_scalar_is word, tt),
      (
        (compress_is word, tt),
        tt,
      ),
    ),
  ),
)

logic_operations_hold : (word : ℕ) → Every (OperationHolds word OPM) logic_operations
logic_operations_hold word = (
  (logic_is word LogicOp.Andn, tt),
  (
    (logic_is word LogicOp.And, tt),
    (
      (logic_is word LogicOp.Or, tt),
      (
        (logic_is word LogicOp.Xor, tt),
        (
          (logic_is word LogicOp.Orn, tt),
          (
            (logic_is word LogicOp.Nand, tt),
            (
              (logic_is word LogicOp.Nor, tt),
              (
                (logic_is word LogicOp.Xnor, tt),
                tt,
              ),
            ),
          ),
        ),
      ),
    ),
  ),
)

to_scalar_operations_hold : (word : ℕ) → Every (OperationHolds word OPM) (select 0x10 V to_scalar_rows)
unfolding to_scalar_rows
to_scalar_operations_hold word = (
  (to_scalar_is word, tt),
  (
    (count_is word, tt),
    (
      (first_is word, tt),
      tt,
    ),
  ),
)

set_mask_operations_hold : (word : ℕ) → Every (OperationHolds word OPM) (select 0x14 V set_mask_rows)
unfolding set_mask_rows
set_mask_operations_hold word = (
  (set_first_is word Before, tt),
  (
    (set_first_is word Only, tt),
    (
      (set_first_is word Including, tt),
      (
        (iota_is word, tt),
        (
          (index_is word, tt),
          tt,
        ),
      ),
    ),
  ),
)

pub high_opi_elements_hold : (word : ℕ) → Every (OperationHolds word OPI) high_opi_elements
high_opi_elements_hold word =
    append_every (OperationHolds word OPI) (select 0x27 I whole_rows) widen_sum_operations (whole_operations_hold word) (widen_sum_operations_hold word)

mask_operations_hold : (word : ℕ) → Every (OperationHolds word OPM) mask_operations
mask_operations_hold word =
    append_every (OperationHolds word OPM) (select 0x10 V to_scalar_rows ++ select 0x14 V set_mask_rows) logic_operations
    (append_every (OperationHolds word OPM) (select 0x10 V to_scalar_rows) (select 0x14 V set_mask_rows) (to_scalar_operations_hold word) (set_mask_operations_hold word))
    (logic_operations_hold word)

pub opm_elements_hold : (word : ℕ) → Every (OperationHolds word OPM) opm_elements
opm_elements_hold word =
    append_every (OperationHolds word OPM) (fold_operations ++ element_operations) mask_operations
    (append_every (OperationHolds word OPM) fold_operations element_operations (fold_operations_hold word) (element_operations_hold word))
    (mask_operations_hold word)
