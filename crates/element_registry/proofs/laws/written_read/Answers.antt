use Rattle.element_registry.proofs.Registered.{name_found, name_read, written_read, written_apart}
use Rattle.element_registry.proofs.laws.written_read.Goals as goal

pub returns : goal.returns
returns c = λ known good. record {
  found = λ t e. name_found known t e good;
  only = λ t e. name_read known t e good;
  written = λ e. written_read known e good;
  apart = λ d e. written_apart known d e good;
}
