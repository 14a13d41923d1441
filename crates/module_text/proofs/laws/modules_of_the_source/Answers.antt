use Rattle.module_text.proofs.Source.{module_text_is}
use Rattle.module_text.proofs.laws.modules_of_the_source.Goals as goal

pub returns : goal.returns
returns c = λ x p flat dropped f h observer other q wanted sets listed ranges are short is.
    module_text_is x p flat dropped f (c.one_system.ensures.one p) h observer other q wanted sets listed ranges are
    short is
