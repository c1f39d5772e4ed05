-- A word means only the instruction that it encodes.
use Rattle.std.proofs.Common.{ℕ}
use Rattle.std.specs.Option.{IfSome}
use Rattle.rv_decode.specs.Decode.{meaning_of, table}
use Rattle.rv_decode.proofs.TableLaw.{SectionsHold, of_table}
use Rattle.rv_decode.proofs.ScalarLaw.{Encodes, lui_rows, auipc_rows, jal_rows, jalr_rows, branch_rows, load_rows, store_rows, immediate_rows, register_rows, fence_rows}
use Rattle.rv_decode.proofs.SystemLaw.{system_rows}
use Rattle.rv_decode.proofs.VectorLaw.{vector_rows}
use Rattle.rv_decode.proofs.AccessLaw.{vector_load_rows, vector_store_rows}

table_holds : (word : ℕ) → SectionsHold (Encodes word) word table
unfolding table
table_holds word = (
  (λ s. load_rows word s.0),
  (
    (λ s. vector_load_rows word s.0),
    (
      (λ s. fence_rows word s.0),
      (
        (λ s. immediate_rows word s.0),
        (
          (λ s. auipc_rows word s.0),
          (
            (λ s. store_rows word s.0),
            (
              (λ s. vector_store_rows word s.0),
              (
                (λ s. register_rows word s.0),
                (
                  (λ s. lui_rows word s.0),
                  (
                    (λ s. vector_rows word s.0),
                    (
                      (λ s. branch_rows word s.0),
                      (
                        (λ s. jalr_rows word s.0),
                        (
                          (λ s. jal_rows word s.0),
                          (
                            (λ s. system_rows word s.0),
                            tt,
                          ),
                        ),
                      ),
                    ),
                  ),
                ),
              ),
            ),
          ),
        ),
      ),
    ),
  ),
)

pub encodes : (word : ℕ) → IfSome (meaning_of word) (Encodes word)
unfolding meaning_of
encodes word = of_table (Encodes word) word table (table_holds word)
