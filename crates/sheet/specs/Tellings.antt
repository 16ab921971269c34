-- What a sheet's answers are told as.
use Rattle.std.specs.Prelude.{ℕ, List, ◌++◌, codes}
use Rattle.std.specs.Fmt.{signed_decimal}
use Rattle.sheet.specs.declared.answers.Shares.{Shares}
use Rattle.sheet.specs.declared.answers.Totals.{Totals}

-- totals are told by the sum and then by each stream's
abbrev pub totals_text : Totals → List ℕ
totals_text totals = signed_decimal totals.sum ++ (codes " " ++ (signed_decimal totals.one ++ (codes " " ++ signed_decimal totals.two)))

-- a link's shares are told by each stream's
abbrev pub shares_text : Shares → List ℕ
shares_text shares = signed_decimal shares.one ++ (codes " " ++ signed_decimal shares.two)
