use Rattle.ns_secure.proofs.Sizes.{cipher_twice, length-cipher}
use Rattle.ns_secure.proofs.laws.cipher_law.Goals as goal

pub returns-clause-inverse : goal.returns-clause-inverse
returns-clause-inverse c = cipher_twice

pub returns-clause-length : goal.returns-clause-length
returns-clause-length c = length-cipher
