-- The rows of the vector words: each gives a word the instruction that it encodes.
use Rattle.std.proofs.Common.{◌++◌, ◌≡◌, ℕ, ◌^◌, ◌*◌, ◌+◌, ◌<◌, [], ◌∷◌, Bool, true, false, refl, ap, ◌∙◌, arith}
use Rattle.rv_decode.specs.Bits.{bits}
use Rattle.rv_decode.specs.Encode.{low_fields}
use Rattle.rv_decode.specs.EncodeVector.{OPI, OPM, code_of_int, code_of_multiply_add, code_of_carry, code_of_carry_out, code_of_merge, code_of_compare, code_of_fixed, code_of_widen, code_of_wide, code_of_widen_multiply_add, code_of_narrow, code_of_clip, code_of_extend, selector_of_extend}
use Rattle.rv_decode.specs.EncodeVector.{vm_of, encode_v, encode_arith, encode_vset}
use Rattle.rv_decode.specs.Operations.{Form, V, operand, vectors, scalars, immediates, select, vm, vs1, vs2, is_masked}
use Rattle.rv_decode.specs.Vector.{int, multiply_add, carry, carry_out, merge, copy, compare, fixed, widen, wide, widen_multiply_add, narrow, clip, extend, extend_rows}
use Rattle.rv_decode.specs.Vector.{integer_operations, shift_operations, averaging_operations, multiply_operations, widening_operations, low_opi, high_opi, opi, low_opm, high_opm, opm}
use Rattle.rv_decode.specs.Vector.{vset_rows, vector_groups, vsetvli, vsetivli, vsetvl}
use Rattle.rv_decode.proofs.TableLaw.{HasFields, Every, append_every, RowsHold, GroupsHold}
use Rattle.rv_decode.proofs.ScalarLaw.{Encodes}
use Rattle.rv_decode.proofs.OperationLaw.{Spells, word_with_mask, word_with_vm, OperationHolds, HoldsInAnyForm, each_operation, rows_of_hold, selects_vectors, selects_scalars, selects_immediates}
use Rattle.rv_decode.proofs.ElementLaw.{low_opi_elements_hold, high_opi_elements_hold, opm_elements_hold}
use Rattle.rv_decode.specs.ElementWords.{low_opi_elements, high_opi_elements, opm_elements}
use Rattle.rv_decode.proofs.Wholes.{below, below5, whole_r}
use Rattle.rv_decode.specs.Words.{CarryOp, CarryOutOp, ClipOp, CompareOp, FixedOp, Fraction, IntOp, MultiplyAddOp, NarrowOp, Source, WideOp}
use Rattle.rv_decode.specs.Words.{WidenMultiplyAddOp, WidenOp, Madd, Nmsub, Macc, Nmsac, Adc, Sbc, Madc, Msbc, Saddu, Sadd, Ssubu, Ssub}
use Rattle.rv_decode.specs.Words.{Aaddu, Aadd, Asubu, Asub, Smul, Ssrl, Ssra, Maccu, Maccus, Maccsu}
use Rattle.rv_decode.specs.declared.instructions.IntOp.TheVariants.{Add, Sub, Rsub, Minu, Min, Maxu, Max, And, Or, Xor, Sll, Srl, Sra, Mul, Mulh, Mulhu, Mulhsu, Divu, Div, Remu, Rem}
use Rattle.rv_decode.specs.declared.instructions.CompareOp.TheVariants.{Eq, Ne, Ltu, Lt, Leu, Le, Gtu, Gt}

-- each shape of operands

int_is : (word : ℕ) (op : IntOp) (form : Form) → Spells word (code_of_int op) (operand form word) → HasFields [] word → Encodes word (int op (operand form word) word)
unfolding encode_arith
int_is word op form s none =
    (word_with_mask word (code_of_int op) (operand form word) s, (below5 7 word, below5 20 word, s.operand_fits))

multiply_add_is : (word : ℕ) (op : MultiplyAddOp) (form : Form) → Spells word (code_of_multiply_add op) (operand form word) → HasFields [] word → Encodes word (multiply_add op (operand form word) word)
unfolding encode_arith
multiply_add_is word op form s none =
    (word_with_mask word (code_of_multiply_add op) (operand form word) s, (below5 7 word, below5 20 word, s.operand_fits))

carry_out_is : (word : ℕ) (op : CarryOutOp) (form : Form) → Spells word (code_of_carry_out op) (operand form word) → HasFields [] word → Encodes word (carry_out op (operand form word) word)
unfolding encode_arith
carry_out_is word op form s none =
    (word_with_mask word (code_of_carry_out op) (operand form word) s, (below5 7 word, below5 20 word, s.operand_fits))

compare_is : (word : ℕ) (op : CompareOp) (form : Form) → Spells word (code_of_compare op) (operand form word) → HasFields [] word → Encodes word (compare op (operand form word) word)
unfolding encode_arith
compare_is word op form s none =
    (word_with_mask word (code_of_compare op) (operand form word) s, (below5 7 word, below5 20 word, s.operand_fits))

fixed_is : (word : ℕ) (op : FixedOp) (form : Form) → Spells word (code_of_fixed op) (operand form word) → HasFields [] word → Encodes word (fixed op (operand form word) word)
unfolding encode_arith
fixed_is word op form s none =
    (word_with_mask word (code_of_fixed op) (operand form word) s, (below5 7 word, below5 20 word, s.operand_fits))

widen_is : (word : ℕ) (op : WidenOp) (form : Form) → Spells word (code_of_widen op) (operand form word) → HasFields [] word → Encodes word (widen op (operand form word) word)
unfolding encode_arith
widen_is word op form s none =
    (word_with_mask word (code_of_widen op) (operand form word) s, (below5 7 word, below5 20 word, s.operand_fits))

wide_is : (word : ℕ) (op : WideOp) (form : Form) → Spells word (code_of_wide op) (operand form word) → HasFields [] word → Encodes word (wide op (operand form word) word)
unfolding encode_arith
wide_is word op form s none =
    (word_with_mask word (code_of_wide op) (operand form word) s, (below5 7 word, below5 20 word, s.operand_fits))

widen_multiply_add_is : (word : ℕ) (op : WidenMultiplyAddOp) (form : Form) → Spells word (code_of_widen_multiply_add op) (operand form word) → HasFields [] word → Encodes word (widen_multiply_add op (operand form word) word)
unfolding encode_arith
widen_multiply_add_is word op form s none =
    (word_with_mask word (code_of_widen_multiply_add op) (operand form word) s, (below5 7 word, below5 20 word, s.operand_fits))

narrow_is : (word : ℕ) (op : NarrowOp) (form : Form) → Spells word (code_of_narrow op) (operand form word) → HasFields [] word → Encodes word (narrow op (operand form word) word)
unfolding encode_arith
narrow_is word op form s none =
    (word_with_mask word (code_of_narrow op) (operand form word) s, (below5 7 word, below5 20 word, s.operand_fits))

clip_is : (word : ℕ) (op : ClipOp) (form : Form) → Spells word (code_of_clip op) (operand form word) → HasFields [] word → Encodes word (clip op (operand form word) word)
unfolding encode_arith
clip_is word op form s none =
    (word_with_mask word (code_of_clip op) (operand form word) s, (below5 7 word, below5 20 word, s.operand_fits))

carry_is : (word : ℕ) (op : CarryOp) (form : Form) → Spells word (code_of_carry op) (operand form word) → HasFields (vm 0 ∷ []) word → Encodes word (carry op (operand form word) word)
unfolding encode_arith
carry_is word op form s m =
    (word_with_vm word (code_of_carry op) (operand form word) 0 s m.0, (below5 7 word, below5 20 word, s.operand_fits))

merge_is : (word : ℕ) (form : Form) → Spells word code_of_merge (operand form word) → HasFields (vm 0 ∷ []) word → Encodes word (merge (operand form word) word)
unfolding encode_arith
merge_is word form s m =
    (word_with_vm word code_of_merge (operand form word) 0 s m.0, (below5 7 word, below5 20 word, s.operand_fits))

copy_is : (word : ℕ) (form : Form) → Spells word code_of_merge (operand form word) → HasFields (vm 1 ∷ vs2 0 ∷ []) word → Encodes word (copy (operand form word) word)
unfolding encode_arith
copy_is word form s m = (
  (λ w. word_with_vm word code_of_merge (operand form word) 1 s m.0 w ∙
      ap (λ n. encode_v code_of_merge (bits 7 5 word) 1 n (operand form word)) m.1.0),
  (below5 7 word, s.operand_fits),
)

extend_is : (word : ℕ) (signed : Bool) (of : Fraction) → Spells word code_of_extend (operand V word) → HasFields (vs1 (selector_of_extend signed of) ∷ []) word → Encodes word (extend signed of word)
unfolding encode_arith
extend_is word signed of s m = (
  (λ w. word_with_mask word code_of_extend (operand V word) s w ∙
      ap (λ n. encode_v code_of_extend (bits 7 5 word) (vm_of (is_masked word)) (bits 20 5 word) (Source.Vector n)) m.0),
  (below5 7 word, below5 20 word),
)

integer_operations_hold : (word : ℕ) → Every (HoldsInAnyForm word OPI) integer_operations
integer_operations_hold word = (
  int_is word Add,
  (
    int_is word Sub,
    (
      int_is word Rsub,
      (
        int_is word Minu,
        (
          int_is word Min,
          (
            int_is word Maxu,
            (
              int_is word Max,
              (
                int_is word And,
                (
                  int_is word Or,
                  (
                    int_is word Xor,
                    (
                      carry_is word Adc,
                      (
                        carry_out_is word Madc,
                        (
                          carry_is word Sbc,
                          (
                            carry_out_is word Msbc,
                            (
                              merge_is word,
                              (
                                copy_is word,
                                (
                                  compare_is word Eq,
                                  (
                                    compare_is word Ne,
                                    (
                                      compare_is word Ltu,
                                      (
                                        compare_is word Lt,
                                        (
                                          compare_is word Leu,
                                          (
                                            compare_is word Le,
                                            (
                                              compare_is word Gtu,
                                              (
                                                compare_is word Gt,
                                                tt,
                                              ),
                                            ),
                                          ),
                                        ),
                                      ),
                                    ),
                                  ),
                                ),
                              ),
                            ),
                          ),
                        ),
                      ),
                    ),
                  ),
                ),
              ),
            ),
          ),
        ),
      ),
    ),
  ),
)

shift_operations_hold : (word : ℕ) → Every (HoldsInAnyForm word OPI) shift_operations
shift_operations_hold word = (
  fixed_is word Saddu,
  (
    fixed_is word Sadd,
    (
      fixed_is word Ssubu,
      (
        fixed_is word Ssub,
        (
          int_is word Sll,
          (
            fixed_is word Smul,
            (
              int_is word Srl,
              (
                int_is word Sra,
                (
                  fixed_is word Ssrl,
                  (
                    fixed_is word Ssra,
                    (
                      narrow_is word NarrowOp.Srl,
                      (
                        narrow_is word NarrowOp.Sra,
                        (
                          clip_is word ClipOp.Clipu,
                          (
                            clip_is word ClipOp.Clip,
                            tt,
                          ),
                        ),
                      ),
                    ),
                  ),
                ),
              ),
            ),
          ),
        ),
      ),
    ),
  ),
)

averaging_operations_hold : (word : ℕ) → Every (HoldsInAnyForm word OPM) averaging_operations
averaging_operations_hold word = (
  fixed_is word Aaddu,
  (
    fixed_is word Aadd,
    (
      fixed_is word Asubu,
      (
        fixed_is word Asub,
        tt,
      ),
    ),
  ),
)

extend_operations_hold : (word : ℕ) → Every (OperationHolds word OPM) (select 0x12 V extend_rows)
unfolding extend_rows
extend_operations_hold word = (
  (extend_is word false Fraction.Quarter, tt),
  (
    (extend_is word true Fraction.Quarter, tt),
    (
      (extend_is word false Fraction.Half, tt),
      (
        (extend_is word true Fraction.Half, tt),
        tt,
      ),
    ),
  ),
)

multiply_operations_hold : (word : ℕ) → Every (HoldsInAnyForm word OPM) multiply_operations
multiply_operations_hold word = (
  int_is word Divu,
  (
    int_is word Div,
    (
      int_is word Remu,
      (
        int_is word Rem,
        (
          int_is word Mulhu,
          (
            int_is word Mul,
            (
              int_is word Mulhsu,
              (
                int_is word Mulh,
                (
                  multiply_add_is word Madd,
                  (
                    multiply_add_is word Nmsub,
                    (
                      multiply_add_is word Macc,
                      (
                        multiply_add_is word Nmsac,
                        tt,
                      ),
                    ),
                  ),
                ),
              ),
            ),
          ),
        ),
      ),
    ),
  ),
)

widening_operations_hold : (word : ℕ) → Every (HoldsInAnyForm word OPM) widening_operations
widening_operations_hold word = (
  widen_is word WidenOp.Addu,
  (
    widen_is word WidenOp.Add,
    (
      widen_is word WidenOp.Subu,
      (
        widen_is word WidenOp.Sub,
        (
          wide_is word WideOp.Addu,
          (
            wide_is word WideOp.Add,
            (
              wide_is word WideOp.Subu,
              (
                wide_is word WideOp.Sub,
                (
                  widen_is word WidenOp.Mulu,
                  (
                    widen_is word WidenOp.Mulsu,
                    (
                      widen_is word WidenOp.Mul,
                      (
                        widen_multiply_add_is word Maccu,
                        (
                          widen_multiply_add_is word WidenMultiplyAddOp.Macc,
                          (
                            widen_multiply_add_is word Maccus,
                            (
                              widen_multiply_add_is word Maccsu,
                              tt,
                            ),
                          ),
                        ),
                      ),
                    ),
                  ),
                ),
              ),
            ),
          ),
        ),
      ),
    ),
  ),
)

low_opi_hold : (word : ℕ) → Every (OperationHolds word OPI) low_opi
unfolding low_opi
low_opi_hold word =
    append_every (OperationHolds word OPI) integer_operations low_opi_elements
    (each_operation word OPI integer_operations (integer_operations_hold word))
    (low_opi_elements_hold word)

high_opi_hold : (word : ℕ) → Every (OperationHolds word OPI) high_opi
unfolding high_opi
high_opi_hold word =
    append_every (OperationHolds word OPI) shift_operations high_opi_elements
    (each_operation word OPI shift_operations (shift_operations_hold word))
    (high_opi_elements_hold word)

opi_hold : (word : ℕ) → Every (OperationHolds word OPI) opi
unfolding opi
opi_hold word = append_every (OperationHolds word OPI) low_opi high_opi (low_opi_hold word) (high_opi_hold word)

low_opm_hold : (word : ℕ) → Every (OperationHolds word OPM) low_opm
unfolding low_opm
low_opm_hold word =
    append_every (OperationHolds word OPM) (averaging_operations ++ select 0x12 V extend_rows) opm_elements
    (append_every (OperationHolds word OPM) averaging_operations (select 0x12 V extend_rows) (each_operation word OPM averaging_operations (averaging_operations_hold word)) (extend_operations_hold word))
    (opm_elements_hold word)

high_opm_hold : (word : ℕ) → Every (OperationHolds word OPM) high_opm
unfolding high_opm
high_opm_hold word =
    append_every (OperationHolds word OPM) multiply_operations widening_operations
    (each_operation word OPM multiply_operations (multiply_operations_hold word))
    (each_operation word OPM widening_operations (widening_operations_hold word))

opm_hold : (word : ℕ) → Every (OperationHolds word OPM) opm
unfolding opm
opm_hold word = append_every (OperationHolds word OPM) low_opm high_opm (low_opm_hold word) (high_opm_hold word)

-- the forms that set vl and vtype

parts_vsetvli : (word : ℕ) → word < 2 ^ 32 → bits 31 1 word ≡ 0 → word ≡ bits 20 11 word * 2 ^ 20 + low_fields (bits 0 7 word) (bits 7 5 word) (bits 12 3 word) (bits 15 5 word)
unfolding bits low_fields
parts_vsetvli word w top = omega arith

parts_vsetivli : (word : ℕ) → word < 2 ^ 32 → bits 31 1 word ≡ 1 → bits 30 1 word ≡ 1 → word ≡ 3 * 2 ^ 30 + bits 20 10 word * 2 ^ 20 + low_fields (bits 0 7 word) (bits 7 5 word) (bits 12 3 word) (bits 15 5 word)
unfolding bits low_fields
parts_vsetivli word w top next = omega arith

top_of_vsetvl : (word : ℕ) → bits 31 1 word ≡ 1 → bits 30 1 word ≡ 0 → bits 25 5 word ≡ 0 → bits 25 7 word ≡ 0x40
unfolding bits
top_of_vsetvl word top next rest = omega arith

vsetvli_is : (word : ℕ) → bits 0 7 word ≡ 0x57 → bits 12 3 word ≡ 7 → bits 31 1 word ≡ 0 → Encodes word (vsetvli word)
unfolding encode_vset
vsetvli_is word o f top =
    ((λ w. let h = parts_vsetvli word w top in cc), (below5 7 word, below5 15 word, below 20 11 2048 word refl (omega arith)))

vsetivli_is : (word : ℕ) → bits 0 7 word ≡ 0x57 → bits 12 3 word ≡ 7 → bits 31 1 word ≡ 1 → bits 30 1 word ≡ 1 → Encodes word (vsetivli word)
unfolding encode_vset
vsetivli_is word o f top next =
    ((λ w. let h = parts_vsetivli word w top next in cc), (below5 7 word, below5 15 word, below 20 10 1024 word refl (omega arith)))

vsetvl_is : (word : ℕ) → bits 0 7 word ≡ 0x57 → bits 12 3 word ≡ 7 → bits 31 1 word ≡ 1 → bits 30 1 word ≡ 0 → bits 25 5 word ≡ 0 → Encodes word (vsetvl word)
unfolding encode_vset
vsetvl_is word o f top next rest =
    let g = top_of_vsetvl word top next rest in ((λ w. let h = whole_r word w in cc), (below5 7 word, below5 15 word, below5 20 word))

vset_hold : (word : ℕ) → bits 0 7 word ≡ 0x57 → bits 12 3 word ≡ 7 → RowsHold (Encodes word) word vset_rows
unfolding vset_rows
vset_hold word o f = (
  (λ r. vsetvli_is word o f r.0),
  (
    (λ r. vsetivli_is word o f r.0 r.1.0),
    (
      (λ r. vsetvl_is word o f r.0 r.1.0 r.1.1.0),
      tt,
    ),
  ),
)

pub vector_rows : (word : ℕ) → bits 0 7 word ≡ 0x57 → GroupsHold (Encodes word) word vector_groups
unfolding vector_groups
vector_rows word o = (
  (λ g. rows_of_hold word OPI vectors o (selects_vectors word OPI g.0) opi (opi_hold word)),
  (
    (λ g. rows_of_hold word OPM vectors o (selects_vectors word OPM g.0) opm (opm_hold word)),
    (
      (λ g. rows_of_hold word OPI immediates o (selects_immediates word g.0) opi (opi_hold word)),
      (
        (λ g. rows_of_hold word OPI scalars o (selects_scalars word OPI g.0) opi (opi_hold word)),
        (
          (λ g. rows_of_hold word OPM scalars o (selects_scalars word OPM g.0) opm (opm_hold word)),
          (
            (λ g. vset_hold word o g.0),
            tt,
          ),
        ),
      ),
    ),
  ),
)
