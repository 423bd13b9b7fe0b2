-- What a ground book means: the model of the site book or of the rule book that it is.
use Rattle.model.specs.Models.{Model}
use Rattle.rulebook.specs.Contents as rule
use Rattle.rulemodel.specs.Meaning.{rule_model}
use Rattle.sitebook.specs.Contents as site
use Rattle.sitemodel.specs.Meaning.{site_model}
use Rattle.ground.specs.declared.GroundBook.{GroundBook}
use Rattle.ground.specs.declared.GroundBook.TheVariants.{Site, Rule}

abbrev pub ground_model : GroundBook → Model
ground_model (Site b) = site_model (site.contents b)
ground_model (Rule b) = rule_model (rule.contents b)
