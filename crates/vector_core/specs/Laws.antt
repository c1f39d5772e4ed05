-- What an element of 32 bits becomes is what the scalar instruction of the same name makes of two
-- registers.
use Rattle.std.specs.Prelude.{◌≡◌, ℕ, ◌<◌, ◌^◌, Option, Some, None}
use Rattle.std.specs.{Int.w32, Option.IfSome}
use Rattle.rv_decode.specs.declared.instructions.IntOp.TheVariants as vector
use Rattle.lane_int.specs.Integer.{element}
use Rattle.scalar_core.specs.Arithmetic.{register_result}
use Rattle.rv_decode.specs.declared.instructions.RegisterOp.TheVariants as scalar
use Rattle.vector_core.specs.Words.{RegisterOp, IntOp}

-- add to remu; vrsub, vminu, vmin, vmaxu and vmax have no scalar instruction in RV32I and M
abbrev pub scalar_of : IntOp → Option RegisterOp
scalar_of vector.Add = Some scalar.Add
scalar_of vector.Sub = Some scalar.Sub
scalar_of vector.Rsub = None
scalar_of vector.Minu = None
scalar_of vector.Min = None
scalar_of vector.Maxu = None
scalar_of vector.Max = None
scalar_of vector.And = Some scalar.And
scalar_of vector.Or = Some scalar.Or
scalar_of vector.Xor = Some scalar.Xor
scalar_of vector.Sll = Some scalar.Sll
scalar_of vector.Srl = Some scalar.Srl
scalar_of vector.Sra = Some scalar.Sra
scalar_of vector.Mul = Some scalar.Mul
scalar_of vector.Mulhu = Some scalar.Mulhu
scalar_of vector.Mulhsu = Some scalar.Mulhsu
scalar_of vector.Mulh = Some scalar.Mulh
scalar_of vector.Divu = Some scalar.Divu
scalar_of vector.Div = Some scalar.Div
scalar_of vector.Remu = Some scalar.Remu
scalar_of vector.Rem = Some scalar.Rem

abbrev pub ElementsAreRegisterResults : Type 0
ElementsAreRegisterResults =
    (op : IntOp) (a b : ℕ) → a < 2 ^ 32 → b < 2 ^ 32 →
    IfSome (scalar_of op) (λ scalar_op. element op w32 a b ≡ register_result scalar_op a b)
