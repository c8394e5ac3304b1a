use Rattle.std.proofs.Common.{sym, ap}
use Rattle.plans.specs.Pages.{add_page, enter_page, mix_page, finish_page, copy_page, affine_page, sum_page, leave_page, unaffine_page, unmix_page, rcon_page}
use Rattle.plans.specs.Plays.{page_of}
use Rattle.plans.proofs.plays.Play.page.Goals as goal

pub returns-in-Add : goal.returns-in-Add
unfolding add_page
returns-in-Add c = ap (page_of c.args.inverter.now) (sym c.in-Add.is)

pub returns-in-Enter : goal.returns-in-Enter
unfolding enter_page
returns-in-Enter c = ap (page_of c.args.inverter.now) (sym c.in-Enter.is)

pub returns-in-Invert : goal.returns-in-Invert
returns-in-Invert c = ap (page_of c.args.inverter.now) (sym c.in-Invert.is)

pub returns-in-Mix : goal.returns-in-Mix
unfolding mix_page
returns-in-Mix c = ap (page_of c.args.inverter.now) (sym c.in-Mix.is)

pub returns-in-Finish : goal.returns-in-Finish
unfolding finish_page
returns-in-Finish c = ap (page_of c.args.inverter.now) (sym c.in-Finish.is)

pub returns-in-Copy : goal.returns-in-Copy
unfolding copy_page
returns-in-Copy c = ap (page_of c.args.inverter.now) (sym c.in-Copy.is)

pub returns-in-Affine : goal.returns-in-Affine
unfolding affine_page
returns-in-Affine c = ap (page_of c.args.inverter.now) (sym c.in-Affine.is)

pub returns-in-Sum : goal.returns-in-Sum
unfolding sum_page
returns-in-Sum c = ap (page_of c.args.inverter.now) (sym c.in-Sum.is)

pub returns-in-Leave : goal.returns-in-Leave
unfolding leave_page
returns-in-Leave c = ap (page_of c.args.inverter.now) (sym c.in-Leave.is)

pub returns-in-Unaffine : goal.returns-in-Unaffine
unfolding unaffine_page
returns-in-Unaffine c = ap (page_of c.args.inverter.now) (sym c.in-Unaffine.is)

pub returns-in-Unmix : goal.returns-in-Unmix
unfolding unmix_page
returns-in-Unmix c = ap (page_of c.args.inverter.now) (sym c.in-Unmix.is)

pub returns-in-Rcon1 : goal.returns-in-Rcon1
unfolding rcon_page
returns-in-Rcon1 c = ap (page_of c.args.inverter.now) (sym c.in-Rcon1.is)

pub returns-in-Rcon2 : goal.returns-in-Rcon2
unfolding rcon_page
returns-in-Rcon2 c = ap (page_of c.args.inverter.now) (sym c.in-Rcon2.is)

pub returns-in-Rcon3 : goal.returns-in-Rcon3
unfolding rcon_page
returns-in-Rcon3 c = ap (page_of c.args.inverter.now) (sym c.in-Rcon3.is)

pub returns-in-Rcon4 : goal.returns-in-Rcon4
unfolding rcon_page
returns-in-Rcon4 c = ap (page_of c.args.inverter.now) (sym c.in-Rcon4.is)

pub returns-in-Rcon5 : goal.returns-in-Rcon5
unfolding rcon_page
returns-in-Rcon5 c = ap (page_of c.args.inverter.now) (sym c.in-Rcon5.is)

pub returns-in-Rcon6 : goal.returns-in-Rcon6
unfolding rcon_page
returns-in-Rcon6 c = ap (page_of c.args.inverter.now) (sym c.in-Rcon6.is)

pub returns-in-Rcon7 : goal.returns-in-Rcon7
unfolding rcon_page
returns-in-Rcon7 c = ap (page_of c.args.inverter.now) (sym c.in-Rcon7.is)

pub returns-in-Rcon8 : goal.returns-in-Rcon8
unfolding rcon_page
returns-in-Rcon8 c = ap (page_of c.args.inverter.now) (sym c.in-Rcon8.is)

pub returns-in-Rcon9 : goal.returns-in-Rcon9
unfolding rcon_page
returns-in-Rcon9 c = ap (page_of c.args.inverter.now) (sym c.in-Rcon9.is)

pub returns-in-Rcon10 : goal.returns-in-Rcon10
unfolding rcon_page
returns-in-Rcon10 c = ap (page_of c.args.inverter.now) (sym c.in-Rcon10.is)
