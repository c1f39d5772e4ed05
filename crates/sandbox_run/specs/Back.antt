-- What a run hands back of its arguments.
use Rattle.std.specs.Prelude.{ℕ, ◌≡◌, false, List, [], ◌∷◌, length, Ok}
use Rattle.region_mem.specs.declared.arguments.Arg.TheVariants as argument
use Rattle.sandbox_run.specs.Words.{Agnostic, Argument, ForEachStart, Machine, Param, after, args_of, is_writable, start}

-- the same, but for the bytes of a buffer: they may differ, and are as many
abbrev pub HasShapeOf : Argument → Argument → Type 0
HasShapeOf argument.None back = back ≡ argument.None
HasShapeOf (argument.Scalar value) back = back ≡ argument.Scalar value
HasShapeOf (argument.Buffer bytes) back =
    (new : List ℕ) × (back ≡ argument.Buffer new) × (length new ≡ length bytes)

-- Place by place: a scalar comes back as it was passed, a buffer with as many bytes, and with the
-- same ones where its parameter has it only read.
abbrev pub ComesBack : List Param → List Argument → List Argument → Type 0
ComesBack params [] back = back ≡ []
ComesBack [] (arg ∷ args) back = ⊥
ComesBack (param ∷ params) (arg ∷ args) [] = ⊥
ComesBack (param ∷ params) (arg ∷ args) (other ∷ back) =
    HasShapeOf arg other × (is_writable param ≡ false → other ≡ arg) × ComesBack params args back

-- So do the arguments of each run, of any image, from each state that it leads to.
abbrev pub RunsHandBack : Type 0
RunsHandBack =
    ForEachStart (λ image params args. (vlenb k : ℕ) (agnostic : Agnostic) (m : Machine) →
    after vlenb (start vlenb agnostic image params args) k ≡ Ok m →
    ComesBack params args (args_of m.memory))
