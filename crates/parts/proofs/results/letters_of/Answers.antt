use Rattle.parts.proofs.Letters.{letters-of, letters-none}
use Rattle.terms.specs.Paper.{printed_statuses}
use Rattle.terms.specs.declared.Status.TheVariants.{Blank, GA, GK, GB, GE, GP, CX, TX, PX, AD, AC, AJ, AK, AH, AB, DJ, DA, II, FX, PD}
use Rattle.parts.proofs.results.letters_of.Goals as goal

pub returns-in-0 : goal.returns-in-0
returns-in-0 c = letters-of Blank c.in-0.is c.letters.ensures

pub returns-in-1 : goal.returns-in-1
returns-in-1 c = letters-of GA c.in-1.is c.letters-in-1.ensures

pub returns-in-2 : goal.returns-in-2
returns-in-2 c = letters-of GK c.in-2.is c.letters-in-2.ensures

pub returns-in-10 : goal.returns-in-10
returns-in-10 c = letters-of GB c.in-10.is c.letters-in-10.ensures

pub returns-in-11 : goal.returns-in-11
returns-in-11 c = letters-of GE c.in-11.is c.letters-in-11.ensures

pub returns-in-12 : goal.returns-in-12
returns-in-12 c = letters-of GP c.in-12.is c.letters-in-12.ensures

pub returns-in-20 : goal.returns-in-20
returns-in-20 c = letters-of CX c.in-20.is c.letters-in-20.ensures

pub returns-in-21 : goal.returns-in-21
returns-in-21 c = letters-of TX c.in-21.is c.letters-in-21.ensures

pub returns-in-22 : goal.returns-in-22
returns-in-22 c = letters-of PX c.in-22.is c.letters-in-22.ensures

pub returns-in-23 : goal.returns-in-23
returns-in-23 c = letters-of AD c.in-23.is c.letters-in-23.ensures

pub returns-in-24 : goal.returns-in-24
returns-in-24 c = letters-of AC c.in-24.is c.letters-in-24.ensures

pub returns-in-25 : goal.returns-in-25
returns-in-25 c = letters-of AJ c.in-25.is c.letters-in-25.ensures

pub returns-in-26 : goal.returns-in-26
returns-in-26 c = letters-of AK c.in-26.is c.letters-in-26.ensures

pub returns-in-27 : goal.returns-in-27
returns-in-27 c = letters-of AH c.in-27.is c.letters-in-27.ensures

pub returns-in-28 : goal.returns-in-28
returns-in-28 c = letters-of AB c.in-28.is c.letters-in-28.ensures

pub returns-in-29 : goal.returns-in-29
returns-in-29 c = letters-of DJ c.in-29.is c.letters-in-29.ensures

pub returns-in-30 : goal.returns-in-30
returns-in-30 c = letters-of DA c.in-30.is c.letters-in-30.ensures

pub returns-in-31 : goal.returns-in-31
returns-in-31 c = letters-of II c.in-31.is c.letters-in-31.ensures

pub returns-in-32 : goal.returns-in-32
returns-in-32 c = letters-of FX c.in-32.is c.letters-in-32.ensures

pub returns-in-33 : goal.returns-in-33
returns-in-33 c = letters-of PD c.in-33.is c.letters-in-33.ensures

pub returns-in_default : goal.returns-in_default
unfolding printed_statuses
returns-in_default c = letters-none c.args.status c.in_default.in_default-own.rest
