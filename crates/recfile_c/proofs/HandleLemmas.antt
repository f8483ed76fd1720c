-- What lies behind an open handle is what a call on the handle is lent, and its status is handed on as it is.
use Rattle.std.proofs.Common.{◌≡◌, ◌<◌, ℤ, Option, Some, sym, ap, ◌∙◌, rules}
use Rattle.std.specs.Prelude.{option_map}
use Rattle.std.specs.Int.Signed.{mag}
use Rattle.std.proofs.Math.Facts.{to_z-of_z}
use mir.Syntax.{w32}
use mir.Val.{SFits, to_z, of_z}

pub lent_of : {Owner Held : Type 0} (value : Owner → Held) {handle : Option Held} {taken : Option Owner} {held : Owner} {lent : Held}
    → option_map value taken ≡ handle → taken ≡ Some held → lent ≡ value held → handle ≡ Some lent
lent_of value out some same = sym out ∙ ap (option_map value) some ∙ ap Some (sym same)

fits : (status : ℤ) → mag status < 2147483648 → SFits w32 status
fits status small = search rules

pub handed_on : (status : ℤ) → mag status < 2147483648 → to_z w32 (of_z w32 status) ≡ status
handed_on status small = to_z-of_z (fits status small)
