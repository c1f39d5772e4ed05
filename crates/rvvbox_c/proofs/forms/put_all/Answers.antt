use Rattle.rvvbox_c.proofs.FormLemmas.{eight-left}
use Rattle.rvvbox_c.proofs.forms.put_all.Goals as goal

pub returns : goal.returns
returns c = eight-left c.args.args.now c.index-args-0.result c.index-args-1.result c.index-args-2.result c.index-args-3.result c.index-args-4.result c.index-args-5.result c.index-args-6.result c.index-args-7.result c.args.forms.now.a0 c.args.forms.now.a1 c.args.forms.now.a2 c.args.forms.now.a3 c.args.forms.now.a4 c.args.forms.now.a5 c.args.forms.now.a6 c.args.forms.now.a7 c.args.b0.now c.args.b1.now c.args.b2.now c.args.b3.now c.args.b4.now c.args.b5.now c.args.b6.now c.args.b7.now c.put_back.new.bytes c.put_back-2.new.bytes c.put_back-3.new.bytes c.put_back-4.new.bytes c.put_back-5.new.bytes c.put_back-6.new.bytes c.put_back-7.new.bytes c.put_back-8.new.bytes c.type_inv.args
    c.index-args-0.is c.index-args-1.is c.index-args-2.is c.index-args-3.is c.index-args-4.is c.index-args-5.is c.index-args-6.is c.index-args-7.is
    (rw (← c.index-args-0.is) at c.put_back.ensures.value) (rw (← c.index-args-1.is) at c.put_back-2.ensures.value) (rw (← c.index-args-2.is) at c.put_back-3.ensures.value) (rw (← c.index-args-3.is) at c.put_back-4.ensures.value) (rw (← c.index-args-4.is) at c.put_back-5.ensures.value) (rw (← c.index-args-5.is) at c.put_back-6.ensures.value) (rw (← c.index-args-6.is) at c.put_back-7.ensures.value) (rw (← c.index-args-7.is) at c.put_back-8.ensures.value)
