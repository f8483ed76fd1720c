use Rattle.std.proofs.Common.{subst, ap, ◌∙◌}
use Rattle.byteorder.specs.Endian.{big_number}
use Rattle.rec_types.specs.Padded.{AreBytes}
use Rattle.rec_types.proofs.NumberOrder.{number_of_key, bytes_of_key}
use Rattle.rec_types.proofs.key.Key.front.Goals as goal

pub returns-clause-value : goal.returns-clause-value
returns-clause-value c = c.front_of.ensures.value ∙ number_of_key 8 c.self.inside c.self.invariant ∙ ap (big_number 8) c.self.view_is

pub returns-clause-bytes : goal.returns-clause-bytes
returns-clause-bytes c = subst AreBytes c.self.view_is (bytes_of_key c.self.inside c.self.invariant c.front_of.ensures.bytes)
