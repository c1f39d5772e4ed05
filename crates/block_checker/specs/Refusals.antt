-- The error of what could not be proved at a word. The name, the address and the text of each
-- error.
use Rattle.std.specs.Prelude.{ℕ, ◌≡◌, ◌++◌, List, Option, Some, None, codes}
use Rattle.region_mem.specs.Digits.{digits_text}
use Rattle.block_checker.specs.Words.{CheckError, Why}
use Rattle.abs_domain.specs.Why.{why_text}
use Rattle.abs_domain.specs.declared.why.Why.TheVariants as why
use Rattle.block_checker.specs.declared.errors.CheckError.TheVariants as error

abbrev pub refusal : Why → ℕ → CheckError
refusal why.IllegalWord pc = error.IllegalWord pc
refusal why.VtypeUnknown pc = error.VtypeUnknown pc
refusal why.AccessNotProved pc = error.AccessNotProved pc
refusal why.ReadOnly pc = error.ReadOnly pc
refusal why.TargetNotABlock pc = error.TargetNotABlock pc
refusal why.IntervalNotProved pc = error.IntervalNotProved pc
refusal why.EqualityNotProved pc = error.EqualityNotProved pc
refusal why.OrderNotProved pc = error.OrderNotProved pc
refusal why.VectorFactNotProved pc = error.VectorFactNotProved pc
refusal why.BudgetNotProved pc = error.BudgetNotProved pc

-- the error's name
abbrev pub name_of : CheckError → List ℕ
name_of error.WrongVlen = codes "WrongVlen"
name_of error.NoEntryBlock = codes "NoEntryBlock"
name_of (error.NotCode pc) = codes "NotCode"
name_of (error.IllegalWord pc) = codes "IllegalWord"
name_of (error.VtypeUnknown pc) = codes "VtypeUnknown"
name_of (error.AccessNotProved pc) = codes "AccessNotProved"
name_of (error.ReadOnly pc) = codes "ReadOnly"
name_of (error.TargetNotABlock pc) = codes "TargetNotABlock"
name_of (error.IntervalNotProved pc) = codes "IntervalNotProved"
name_of (error.EqualityNotProved pc) = codes "EqualityNotProved"
name_of (error.OrderNotProved pc) = codes "OrderNotProved"
name_of (error.VectorFactNotProved pc) = codes "VectorFactNotProved"
name_of (error.BudgetNotProved pc) = codes "BudgetNotProved"
name_of (error.BlockTooLong pc) = codes "BlockTooLong"
name_of error.NoMemory = codes "NoMemory"

-- the address that the error carries
abbrev pub address_of : CheckError → Option ℕ
address_of error.WrongVlen = None
address_of error.NoEntryBlock = None
address_of (error.NotCode pc) = Some pc
address_of (error.IllegalWord pc) = Some pc
address_of (error.VtypeUnknown pc) = Some pc
address_of (error.AccessNotProved pc) = Some pc
address_of (error.ReadOnly pc) = Some pc
address_of (error.TargetNotABlock pc) = Some pc
address_of (error.IntervalNotProved pc) = Some pc
address_of (error.EqualityNotProved pc) = Some pc
address_of (error.OrderNotProved pc) = Some pc
address_of (error.VectorFactNotProved pc) = Some pc
address_of (error.BudgetNotProved pc) = Some pc
address_of (error.BlockTooLong pc) = Some pc
address_of error.NoMemory = None

-- the error carries this address
abbrev pub IsAt : ℕ → CheckError → Type 0
IsAt pc e = address_of e ≡ Some pc

-- what is wrong, in words
abbrev pub words_of : CheckError → List ℕ
words_of error.WrongVlen = codes "the certificate is for another vector length"
words_of error.NoEntryBlock = codes "no block begins at the entry"
words_of (error.NotCode pc) = codes "no code"
words_of (error.IllegalWord pc) = why_text why.IllegalWord
words_of (error.VtypeUnknown pc) = codes "the vector type is not known to be as wanted"
words_of (error.AccessNotProved pc) = why_text why.AccessNotProved
words_of (error.ReadOnly pc) = why_text why.ReadOnly
words_of (error.TargetNotABlock pc) = why_text why.TargetNotABlock
words_of (error.IntervalNotProved pc) = why_text why.IntervalNotProved
words_of (error.EqualityNotProved pc) = why_text why.EqualityNotProved
words_of (error.OrderNotProved pc) = why_text why.OrderNotProved
words_of (error.VectorFactNotProved pc) = why_text why.VectorFactNotProved
words_of (error.BudgetNotProved pc) = why_text why.BudgetNotProved
words_of (error.BlockTooLong pc) = codes "a block is too long"
words_of error.NoMemory = codes "out of memory"

abbrev pub at_address : List ℕ → Option ℕ → List ℕ
at_address words None = words
at_address words (Some pc) = words ++ (codes " at " ++ digits_text pc)

abbrev pub error_text : CheckError → List ℕ
error_text e = at_address (words_of e) (address_of e)
