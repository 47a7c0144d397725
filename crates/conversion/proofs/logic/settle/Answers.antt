-- `conversion::logic::settle` meets its contract. Assumes nothing.
use Rattle.pieces.specs.declared.said.Said.TheVariants as said
use Rattle.conversion.proofs.Settling.{quietly}
use Rattle.conversion.proofs.logic.settle.Goals as goal

pub returns-in-Number : goal.returns-in-Number
returns-in-Number c = quietly _ _ _ _ (said.Number _) _ c.in-Number.is c.requires.1 tt

pub returns-in-Unchanged : goal.returns-in-Unchanged
returns-in-Unchanged c = quietly _ _ _ _ said.Unchanged _ c.in-Unchanged.is c.requires.1 tt

pub returns-in-Unknown : goal.returns-in-Unknown
returns-in-Unknown c = quietly _ _ _ _ said.Unknown _ c.in-Unknown.is c.requires.1 tt

pub returns-in-Formula : goal.returns-in-Formula
returns-in-Formula c = quietly _ _ _ _ said.Formula _ c.in-Formula.is c.requires.1 tt

pub returns-in-Broken : goal.returns-in-Broken
returns-in-Broken c = quietly _ _ _ _ said.Broken _ c.in-Broken.is c.requires.1 tt
